-- The answers that the check does not find by itself.
use Rattle.ready_index.specs.LoopLaws.{setting_out, arrived, lookup}
use Rattle.ready_index.proofs.look_for.Goals as goal

pub loop-room-init : goal.loop-room-init
loop-room-init c = search setting_out

pub returns-in_default : goal.returns-in_default
returns-in_default c = arrived _ (search lookup depth 8)

pub loop-room-preserved-in-Left : goal.loop-room-preserved-in-Left
loop-room-preserved-in-Left c = search lookup depth 8

pub loop-room-preserved : goal.loop-room-preserved
loop-room-preserved c = search lookup depth 8

pub returns-then-node-id : goal.returns-then-node-id
returns-then-node-id c = arrived _ (search lookup depth 8)

pub returns-in-Equal : goal.returns-in-Equal
returns-in-Equal c = arrived _ (search lookup depth 8)

pub returns-in-Damaged : goal.returns-in-Damaged
returns-in-Damaged c = arrived _ (search lookup depth 8)

pub returns : goal.returns
returns c = arrived _ (search lookup depth 8)
