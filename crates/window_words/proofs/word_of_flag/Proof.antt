-- The words of each case stand for it.
use Rattle.window_words.specs.WordLaws.{word_laws}
use Rattle.window_words.proofs.word_of_flag.Statement.{statement}
use Rattle.window_words.proofs.word_of_flag.Tie as tie

pub word_of_flag_spec : {M : Type 1} → statement M
word_of_flag_spec =
    tie.close
    (tie.spec
    (λ c. search word_laws depth 8)
    (λ c. search word_laws depth 8))
