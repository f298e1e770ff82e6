-- Each part's word stands for it.
use Rattle.window_words.specs.WordLaws.{key_stored}
use borrow.Author.Rules.{rules}
use Rattle.window_words.proofs.words_of_key.Statement.{statement}
use Rattle.window_words.proofs.words_of_key.Tie as tie

pub words_of_key_spec : {M : Type 1} → statement M
words_of_key_spec =
    tie.close
    (tie.spec
    (λ c κs. search rules)
    (λ c κs. search rules)
    (λ c κs. search rules)
    (λ c κs. search rules)
    (λ c κs. search rules)
    (λ c. search key_stored depth 8))
