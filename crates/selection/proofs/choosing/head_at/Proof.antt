-- The row, its processor, its refresh.
use Rattle.refusal.specs.Cases.{cases}
use Rattle.lists.specs.ListsLaws.{row_inside, row_outside}
use Rattle.selection.specs.Steps.{head_refreshed}
use Rattle.rows.specs.Frame.{framing}
use borrow.Author.Rules.{rules}
use Rattle.selection.proofs.choosing.head_at.Statement.{statement}
use Rattle.selection.proofs.choosing.head_at.Tie as tie

pub head_at_spec : {M : Type 1} → statement M
unfolding head_refreshed
head_at_spec =
    tie.close
    (tie.spec
    (λ c. search rules)
    (λ c. search rules)
    (λ c κs. search rules)
    (λ c. (search (cases, row_inside, row_outside) depth 8, search framing depth 8))
    (λ c κs. search rules)
    (λ c. search rules)
    (λ c. (search (cases, row_inside, row_outside) depth 8, search framing depth 8))
    (λ c. (search (cases, row_inside, row_outside) depth 8, search framing depth 8)))
