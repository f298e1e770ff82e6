-- The row, its runtime refreshed, the store.
use Rattle.lists.specs.ListsLaws.{row_inside, row_outside}
use Rattle.renewal.specs.RenewalLaws.{renewing}
use Rattle.renewal.specs.Steps.{budget_refreshed}
use Rattle.rows.specs.Frame.{framing}
use borrow.Author.Rules.{rules}
use Rattle.renewal.proofs.refresh_budget.Statement.{statement}
use Rattle.renewal.proofs.refresh_budget.Tie as tie

pub refresh_budget_spec : {M : Type 1} → statement M
unfolding budget_refreshed
refresh_budget_spec =
    tie.close
    (tie.spec
    (λ c. search rules)
    (λ c. search rules)
    (λ c κs. search rules)
    (λ c κs. search rules)
    (λ c κs. search rules)
    (λ c κs. search rules)
    (λ c. search rules)
    (λ c. (search (row_inside, row_outside, renewing) depth 8, search framing depth 8))
    (λ c. (search (row_inside, row_outside, renewing) depth 8, search framing depth 8)))
