-- Every part is read from the definition's words.
use Rattle.window_words.specs.WordLaws.{dispatch_key_read}
use borrow.Author.Rules.{rules}
use Rattle.window_words.proofs.dispatch_key_of.Statement.{statement}
use Rattle.window_words.proofs.dispatch_key_of.Tie as tie

pub dispatch_key_of_spec : {M : Type 1} → statement M
dispatch_key_of_spec =
    tie.close
    (tie.spec
    (λ c. search rules)
    (λ c κs. search rules)
    (λ c. search rules)
    (λ c κs. search rules)
    (λ c. search rules)
    (λ c κs. search rules)
    (λ c. search rules)
    (λ c κs. search rules)
    (λ c. search rules)
    (λ c. search rules)
    (λ c. search rules)
    (λ c. search dispatch_key_read depth 8))
