-- The stores are at the configuration's words alone, and the row has 12 words, so that each is made.
use Rattle.window_words.specs.WordLaws.{config_stored}
use borrow.Author.Rules.{rules}
use Rattle.window_words.proofs.with_config.Statement.{statement}
use Rattle.window_words.proofs.with_config.Tie as tie

pub with_config_spec : {M : Type 1} → statement M
with_config_spec =
    tie.close
    (tie.spec
    (λ c κs. search rules)
    (λ c κs. search rules)
    (λ c κs. search rules)
    (λ c κs. search rules)
    (λ c κs. search rules)
    (λ c. search rules)
    (λ c. search rules)
    (λ c. search rules)
    (λ c. search rules)
    (λ c. search rules)
    (λ c. search rules)
    (λ c. search rules)
    (λ c. search rules)
    (λ c. search config_stored depth 8))
