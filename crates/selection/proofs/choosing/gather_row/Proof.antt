-- The row inside the table, outside nothing.
use Rattle.lists.specs.ListsLaws.{row_inside, row_outside}
use Rattle.selection.specs.Steps.{head_gathered}
use borrow.Author.Rules.{rules}
use Rattle.selection.proofs.choosing.gather_row.Statement.{statement}
use Rattle.selection.proofs.choosing.gather_row.Tie as tie

pub gather_row_spec : {M : Type 1} → statement M
unfolding head_gathered
gather_row_spec =
    tie.close
    (tie.spec
    (λ c. search rules)
    (λ c. search rules)
    (λ c κs. search rules)
    (λ c. search (row_inside, row_outside) depth 8)
    (λ c. search (row_inside, row_outside) depth 8))
