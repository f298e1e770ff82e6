-- The words of each case stand for it.
use Rattle.board_words.specs.WordLaws.{word_laws}
use borrow.Author.Rules.{rules}
use Rattle.board_words.proofs.words_of_pass.Statement.{statement}
use Rattle.board_words.proofs.words_of_pass.Tie as tie

pub words_of_pass_spec : {M : Type 1} → statement M
words_of_pass_spec =
    tie.close
    (tie.spec
    (λ c. search rules)
    (λ c. search rules)
    (λ c. search word_laws depth 8)
    (λ c. search word_laws depth 8))
