-- The numbers stand for the arguments, the call answers by its own contract, and the answer goes back into numbers.
use Rattle.row_entries.specs.WordsLaws.{wordings, keepings}
use Rattle.rows.specs.Frame.{framing}
use borrow.Author.Rules.{rules}
use Rattle.row_entries.proofs.rows_list_push_front.Statement.{statement}
use Rattle.row_entries.proofs.rows_list_push_front.Tie as tie

pub rows_list_push_front_spec : {M : Type 1} → statement M
rows_list_push_front_spec =
    tie.close
    (tie.spec
    (λ c κs. search rules)
    (λ c κs. search rules)
    (λ c κs. search rules)
    (λ c κs. search rules)
    (λ c. search rules)
    (λ c. (search wordings depth 8, (search keepings depth 8, search framing depth 8))))
