-- The record is there, or not.
use Rattle.lists.specs.ListsLaws.{row_inside, row_outside}
use Rattle.renewal.specs.Steps.{runtime_refreshed}
use Rattle.rows.specs.Frame.{framing}
use borrow.Author.Rules.{rules}
use Rattle.renewal.proofs.refresh_runtime.Statement.{statement}
use Rattle.renewal.proofs.refresh_runtime.Tie as tie

pub refresh_runtime_spec : {M : Type 1} → statement M
unfolding runtime_refreshed
refresh_runtime_spec =
    tie.close
    (tie.spec
    (λ c κs. search rules)
    (λ c. search rules)
    (λ c. (search (row_inside, row_outside) depth 8, search framing depth 8))
    (λ c. (search (row_inside, row_outside) depth 8, search framing depth 8)))
