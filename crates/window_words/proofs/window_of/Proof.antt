-- Every part is read from the definition's words.
use Rattle.window_words.specs.WordLaws.{window_read}
use borrow.Author.Rules.{rules}
use Rattle.window_words.proofs.window_of.Statement.{statement}
use Rattle.window_words.proofs.window_of.Tie as tie

pub window_of_spec : {M : Type 1} → statement M
window_of_spec =
    tie.close
    (tie.spec
    (λ c κs. search rules)
    (λ c. search rules)
    (λ c. search rules)
    (λ c κs. search rules)
    (λ c. search rules)
    (λ c. search rules)
    (λ c. search window_read depth 8))
