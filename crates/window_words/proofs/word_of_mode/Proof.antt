-- The words of each case stand for it.
use Rattle.window_words.specs.WordLaws.{word_laws}
use borrow.Author.Rules.{rules}
use Rattle.window_words.proofs.word_of_mode.Statement.{statement}
use Rattle.window_words.proofs.word_of_mode.Tie as tie

pub word_of_mode_spec : {M : Type 1} → statement M
word_of_mode_spec =
    tie.close
    (tie.spec
    (λ c. search rules)
    (λ c. search rules)
    (λ c. search rules)
    (λ c. search rules)
    (λ c. search rules)
    (λ c. search word_laws depth 8)
    (λ c. search word_laws depth 8)
    (λ c. search word_laws depth 8)
    (λ c. search word_laws depth 8)
    (λ c. search word_laws depth 8))
