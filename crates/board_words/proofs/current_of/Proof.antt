-- With a running thread or without.
use Rattle.board_words.specs.WordLaws.{word_laws}
use borrow.Author.Rules.{rules}
use Rattle.board_words.proofs.current_of.Statement.{statement}
use Rattle.board_words.proofs.current_of.Tie as tie

pub current_of_spec : {M : Type 1} → statement M
current_of_spec =
    tie.close
    (tie.spec
    (λ c κs. search rules)
    (λ c κs. search rules)
    (λ c. search word_laws depth 8)
    (λ c. search word_laws depth 8))
