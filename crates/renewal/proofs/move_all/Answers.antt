-- The answers that the check does not find by itself.
use mathlib.Core.Path.{refl}
use Rattle.rows.specs.Frame.{framing}
use borrow.Author.Rules.{rules}
use Rattle.ready_index.specs.LoopLaws.{setting_out, arrived}
use Rattle.renewal.specs.RenewalLaws.{moving}
use Rattle.renewal.proofs.move_all.Goals as goal

pub loop-left-init : goal.loop-left-init
loop-left-init c = (refl, search setting_out, search framing)

pub returns-in-Emptied-clause-t_after : goal.returns-in-Emptied-clause-t_after
returns-in-Emptied-clause-t_after c = arrived _ (search moving depth 8)

pub loop-left-preserved : goal.loop-left-preserved
loop-left-preserved c = (search rules, search moving depth 8, search framing depth 8)

pub returns-in-Refused-clause-t_after : goal.returns-in-Refused-clause-t_after
returns-in-Refused-clause-t_after c = arrived _ (search moving depth 8)

pub returns-clause-t_after : goal.returns-clause-t_after
returns-clause-t_after c = arrived _ (search moving depth 8)
