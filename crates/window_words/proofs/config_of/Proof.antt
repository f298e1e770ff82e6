-- Every part is read from the definition's words.
use Rattle.window_words.specs.WordLaws.{config_read}
use borrow.Author.Rules.{rules}
use Rattle.window_words.proofs.config_of.Statement.{statement}
use Rattle.window_words.proofs.config_of.Tie as tie

pub config_of_spec : {M : Type 1} → statement M
config_of_spec =
    tie.close
    (tie.spec
    (λ c κs. search rules)
    (λ c. search rules)
    (λ c κs. search rules)
    (λ c. search rules)
    (λ c. search rules)
    (λ c. search rules)
    (λ c. search config_read depth 8))
