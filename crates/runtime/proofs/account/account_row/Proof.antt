-- The budget, then the window.
use Rattle.runtime.specs.RuntimeLaws.{budgets}
use Rattle.rows.specs.Unmoved.{unmoving}
use Rattle.runtime.specs.UnmovedLaws.{refusing}
use Rattle.rows.specs.Frame.{framing}
use borrow.Author.Rules.{rules}
use Rattle.runtime.proofs.account.account_row.Statement.{statement}
use Rattle.runtime.proofs.account.account_row.Tie as tie

pub account_row_spec : {M : Type 1} → statement M
account_row_spec =
    tie.close
    (tie.spec
    (λ c. search rules)
    (λ c. search rules)
    (λ c κs. search rules)
    (λ c κs. search rules)
    (λ c κs. search rules)
    (λ c. search rules)
    (λ c. (
      search (budgets, unmoving, refusing) depth 8,
      (search (budgets, unmoving, refusing) depth 8, search framing depth 8),
    )))
