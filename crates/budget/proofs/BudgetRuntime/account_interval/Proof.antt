use Rattle.refusal.specs.Cases.{cases}
use Rattle.budget.specs.Runtime.{judged, accounted_interval}
use borrow.Author.Rules.{rules}
use Rattle.budget.proofs.BudgetRuntime.account_interval.Statement.{statement}
use Rattle.budget.proofs.BudgetRuntime.account_interval.Tie as tie

pub account_interval_spec : {M : Type 1} → statement M
unfolding judged accounted_interval
account_interval_spec =
    tie.close
    (tie.spec
    (λ c κs. search rules)
    (λ c. search cases depth 8)
    (λ c. search cases depth 8)
    (λ c κs. search rules)
    (λ c. search cases depth 8))
