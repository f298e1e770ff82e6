use Rattle.budget.specs.BudgetLaws.{reconfigured_parts}
use borrow.Author.Rules.{rules}
use Rattle.budget.proofs.BudgetRuntime.reconfigured.Statement.{statement}
use Rattle.budget.proofs.BudgetRuntime.reconfigured.Tie as tie

pub reconfigured_spec : {M : Type 1} → statement M
reconfigured_spec =
    tie.close
    (tie.spec
    (λ c κs. search rules)
    (λ c κs. search rules)
    (λ c κs. search rules)
    (λ c κs. search rules)
    (λ c κs. search rules)
    (λ c κs. search rules)
    (λ c. search reconfigured_parts depth 8))
