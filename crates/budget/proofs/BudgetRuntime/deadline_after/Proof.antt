use Rattle.refusal.specs.Cases.{cases}
use Rattle.budget.specs.Runtime.{deadline_after}
use borrow.Author.Rules.{rules}
use Rattle.budget.proofs.BudgetRuntime.deadline_after.Statement.{statement}
use Rattle.budget.proofs.BudgetRuntime.deadline_after.Tie as tie

pub deadline_after_spec : {M : Type 1} → statement M
unfolding deadline_after
deadline_after_spec =
    tie.close
    (tie.spec
    (λ c κs. search rules)
    (λ c. search cases depth 8)
    (λ c κs. search rules)
    (λ c. search cases depth 8)
    (λ c κs. search rules)
    (λ c κs. search rules)
    (λ c. search cases depth 8))
