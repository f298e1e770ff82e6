-- Each end stands for its two numbers.
use Rattle.row_entries.specs.WordsLaws.{wordings}
use borrow.Author.Rules.{rules}
use Rattle.row_entries.proofs.list_of.Statement.{statement}
use Rattle.row_entries.proofs.list_of.Tie as tie

pub list_of_spec : {M : Type 1} → statement M
list_of_spec =
    tie.close
    (tie.spec
    (λ c κs. search rules)
    (λ c κs. search rules)
    (λ c. search wordings depth 8))
