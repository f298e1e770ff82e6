use Rattle.refusal.specs.Cases.{cases}
use Rattle.budget.specs.Runtime.{judged, refreshed_judged}
use borrow.Author.Rules.{rules}
use Rattle.budget.proofs.BudgetRuntime.refresh.Statement.{statement}
use Rattle.budget.proofs.BudgetRuntime.refresh.Tie as tie

pub refresh_spec : {M : Type 1} → statement M
unfolding judged refreshed_judged
refresh_spec =
    tie.close
    (tie.spec
    (λ c κs. search rules)
    (λ c. search cases depth 8)
    (λ c κs. search rules)
    (λ c. search cases depth 8))
