-- The answers that the check does not find by itself.
use Rattle.ready_index.specs.LoopLaws.{setting_out, arrived, descent}
use Rattle.ready_index.proofs.descend.Goals as goal

pub loop-room-init : goal.loop-room-init
loop-room-init c = search setting_out

pub returns-in_default : goal.returns-in_default
returns-in_default c = arrived _ (search descent depth 8)

pub returns-in_default-left : goal.returns-in_default-left
returns-in_default-left c = arrived _ (search descent depth 8)

pub loop-room-preserved : goal.loop-room-preserved
loop-room-preserved c = search descent depth 8

pub returns : goal.returns
returns c = arrived _ (search descent depth 8)
