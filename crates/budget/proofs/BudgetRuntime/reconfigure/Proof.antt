use Rattle.refusal.specs.Cases.{cases}
use Rattle.budget.specs.Runtime.{judged, reconfigured_judged}
use borrow.Author.Rules.{rules}
use Rattle.budget.proofs.BudgetRuntime.reconfigure.Statement.{statement}
use Rattle.budget.proofs.BudgetRuntime.reconfigure.Tie as tie

pub reconfigure_spec : {M : Type 1} → statement M
unfolding judged reconfigured_judged
reconfigure_spec =
    tie.close
    (tie.spec
    (λ c κs. search rules)
    (λ c. search cases depth 8)
    (λ c κs. search rules)
    (λ c. search cases depth 8)
    (λ c κs. search rules)
    (λ c. search cases depth 8)
    (λ c. search cases depth 8))
