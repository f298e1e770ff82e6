-- By the first word.
use Rattle.refusal.specs.Cases.{cases}
use Rattle.board_words.specs.WordLaws.{word_laws}
use Rattle.window_words.specs.WindowWords.{key_option_of}
use borrow.Author.Rules.{rules}
use Rattle.board_words.proofs.key_option_of.Statement.{statement}
use Rattle.board_words.proofs.key_option_of.Tie as tie

pub key_option_of_spec : {M : Type 1} → statement M
unfolding key_option_of
key_option_of_spec =
    tie.close
    (tie.spec
    (λ c. search rules)
    (λ c. search (cases, word_laws) depth 8)
    (λ c κs. search rules)
    (λ c. search rules)
    (λ c κs. search rules)
    (λ c. search (cases, word_laws) depth 8))
