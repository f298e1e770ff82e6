-- Every part is the one given.
use Rattle.board_words.specs.WordLaws.{word_laws}
use borrow.Author.Rules.{rules}
use Rattle.board_words.proofs.contention_of.Statement.{statement}
use Rattle.board_words.proofs.contention_of.Tie as tie

pub contention_of_spec : {M : Type 1} → statement M
contention_of_spec =
    tie.close
    (tie.spec
    (λ c κs. search rules)
    (λ c κs. search rules)
    (λ c κs. search rules)
    (λ c κs. search rules)
    (λ c. search word_laws depth 8))
