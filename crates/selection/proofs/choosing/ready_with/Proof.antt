-- The row inside the table, outside nothing.
use Rattle.selection.specs.HeadLaws.{heading}
use borrow.Author.Rules.{rules}
use Rattle.selection.proofs.choosing.ready_with.Statement.{statement}
use Rattle.selection.proofs.choosing.ready_with.Tie as tie

pub ready_with_spec : {M : Type 1} → statement M
ready_with_spec =
    tie.close
    (tie.spec
    (λ c. search rules)
    (λ c. search rules)
    (λ c κs. search rules)
    (λ c κs. search rules)
    (λ c. search heading depth 8)
    (λ c. search heading depth 8))
