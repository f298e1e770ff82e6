use Rattle.refusal.specs.Cases.{cases}
use Rattle.budget.specs.Runtime.{judged, turn_finished}
use borrow.Author.Rules.{rules}
use Rattle.budget.proofs.BudgetRuntime.finish_turn.Statement.{statement}
use Rattle.budget.proofs.BudgetRuntime.finish_turn.Tie as tie

pub finish_turn_spec : {M : Type 1} → statement M
unfolding judged turn_finished
finish_turn_spec =
    tie.close
    (tie.spec
    (λ c κs. search rules)
    (λ c. search cases depth 8)
    (λ c. search cases depth 8))
