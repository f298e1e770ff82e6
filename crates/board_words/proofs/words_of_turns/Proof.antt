-- The two words stand for the counters.
use Rattle.board_words.specs.WordLaws.{word_laws}
use Rattle.board_words.proofs.words_of_turns.Statement.{statement}
use Rattle.board_words.proofs.words_of_turns.Tie as tie

pub words_of_turns_spec : {M : Type 1} → statement M
words_of_turns_spec =
    tie.close
    (tie.spec
    (λ c. search word_laws depth 8))
