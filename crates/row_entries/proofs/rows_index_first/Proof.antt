-- The numbers stand for the arguments, the call answers by its own contract, and the answer goes back into numbers.
use Rattle.row_entries.specs.WordsLaws.{wordings}
use borrow.Author.Rules.{rules}
use Rattle.row_entries.proofs.rows_index_first.Statement.{statement}
use Rattle.row_entries.proofs.rows_index_first.Tie as tie

pub rows_index_first_spec : {M : Type 1} → statement M
rows_index_first_spec =
    tie.close
    (tie.spec
    (λ c κs. search rules)
    (λ c κs. search rules)
    (λ c κs. search rules)
    (λ c. search wordings depth 8))
