use Rattle.refusal.specs.Cases.{cases}
use Rattle.budget.specs.Runtime.{judged, period_deadline}
use borrow.Author.Rules.{rules}
use Rattle.budget.proofs.BudgetRuntime.period_deadline.Statement.{statement}
use Rattle.budget.proofs.BudgetRuntime.period_deadline.Tie as tie

pub period_deadline_spec : {M : Type 1} → statement M
unfolding judged period_deadline
period_deadline_spec =
    tie.close
    (tie.spec
    (λ c κs. search rules)
    (λ c. search cases depth 8)
    (λ c κs. search rules)
    (λ c. search cases depth 8))
