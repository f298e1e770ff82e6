-- A tree that is found damaged is the refusal Damaged, handed up.
use Rattle.std.specs.Prelude.{refl, Ok}
use Rattle.std.proofs.Common.{ap, ◌∙◌}
use Rattle.refusal.specs.Cases.{holds}
use Rattle.refusal.specs.HandingLaws.{damage_up}
use Rattle.queue.specs.Plan.{tree_found}
use Rattle.queue.specs.PlanLaws.{held_damaged, not_held}
use Rattle.queue.proofs.planning.tree_found.Goals as goal

pub returns-in_err-contains_under : goal.returns-in_err-contains_under
unfolding tree_found
returns-in_err-contains_under c =
    held_damaged _ _ _ _ c.contains_under.ensures c.in_err-contains_under.was
    (damage_up c.from_residual.result c.from_residual.ensures)

pub returns-in_err-contains_under-2 : goal.returns-in_err-contains_under-2
unfolding tree_found
returns-in_err-contains_under-2 c =
    not_held _ _ _ _ c.contains_under.ensures (c.in_ok-contains_under.was ∙ ap Ok c.if-branch.false)
    (holds _ _ refl c.if-budgeted.true
    (held_damaged _ _ _ _ c.contains_under-then-budgeted.ensures c.in_err-contains_under-2.was
    (damage_up c.from_residual-in_err-contains_under-2.result
    c.from_residual-in_err-contains_under-2.ensures)))
