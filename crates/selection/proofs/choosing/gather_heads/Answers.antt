-- The answers that the check does not find by itself.
use mathlib.Core.Path.{refl}
use Rattle.ready_index.specs.LoopLaws.{arrived}
use Rattle.queue_work.specs.WorkLaws.{beside}
use Rattle.selection.specs.HeadLaws.{gatherings, gather_set_out}
use Rattle.rows.specs.Frame.{framing}
use borrow.Author.Rules.{rules}
use Rattle.selection.proofs.choosing.gather_heads.Goals as goal

pub loop-left-init : goal.loop-left-init
loop-left-init c = (search rules, refl, search rules, search gather_set_out, search framing)

pub returns-in_default-clause-t_after : goal.returns-in_default-clause-t_after
returns-in_default-clause-t_after c = arrived _ (search (gatherings, beside) depth 8)

pub loop-left-preserved-in_default-head : goal.loop-left-preserved-in_default-head
loop-left-preserved-in_default-head c =
    (search rules, search rules, search rules, search gatherings depth 8, search framing depth 8)

pub loop-left-preserved : goal.loop-left-preserved
loop-left-preserved c = (search rules, search rules, search rules, search gatherings depth 8, search framing depth 8)

pub returns-in-Err-clause-t_after : goal.returns-in-Err-clause-t_after
returns-in-Err-clause-t_after c = arrived _ (search (gatherings, beside) depth 8)

pub returns-clause-t_after : goal.returns-clause-t_after
returns-clause-t_after c = arrived _ (search (gatherings, beside) depth 8)
