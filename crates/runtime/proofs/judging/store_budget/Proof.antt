-- A runtime is stored, a refusal is not.
use Rattle.runtime.specs.Rows.{budget_stored}
use Rattle.runtime.specs.RuntimeLaws.{budgets}
use Rattle.rows.specs.Unmoved.{unmoving}
use Rattle.runtime.specs.UnmovedLaws.{refusing}
use Rattle.rows.specs.Frame.{framing}
use borrow.Author.Rules.{rules}
use Rattle.runtime.proofs.judging.store_budget.Statement.{statement}
use Rattle.runtime.proofs.judging.store_budget.Tie as tie

pub store_budget_spec : {M : Type 1} → statement M
unfolding budget_stored
store_budget_spec =
    tie.close
    (tie.spec
    (λ c. search rules)
    (λ c. search rules)
    (λ c κs. search rules)
    (λ c. (
      search (budgets, unmoving, refusing) depth 8,
      (search (budgets, unmoving, refusing) depth 8, search framing depth 8),
    ))
    (λ c. search rules)
    (λ c. (
      search (budgets, unmoving, refusing) depth 8,
      (search (budgets, unmoving, refusing) depth 8, search framing depth 8),
    )))
