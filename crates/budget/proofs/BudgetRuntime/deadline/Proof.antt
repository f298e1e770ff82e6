use Rattle.refusal.specs.Cases.{cases}
use Rattle.budget.specs.Runtime.{judged, deadline_judged}
use borrow.Author.Rules.{rules}
use Rattle.budget.proofs.BudgetRuntime.deadline.Statement.{statement}
use Rattle.budget.proofs.BudgetRuntime.deadline.Tie as tie

pub deadline_spec : {M : Type 1} → statement M
unfolding judged deadline_judged
deadline_spec =
    tie.close
    (tie.spec
    (λ c κs. search rules)
    (λ c. search cases depth 8)
    (λ c κs. search rules)
    (λ c κs. search rules)
    (λ c. search cases depth 8))
