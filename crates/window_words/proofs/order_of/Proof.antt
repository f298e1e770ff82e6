-- Every part is read from the definition's words.
use Rattle.window_words.specs.WordLaws.{order_read}
use borrow.Author.Rules.{rules}
use Rattle.window_words.proofs.order_of.Statement.{statement}
use Rattle.window_words.proofs.order_of.Tie as tie

pub order_of_spec : {M : Type 1} → statement M
order_of_spec =
    tie.close
    (tie.spec
    (λ c. search rules)
    (λ c κs. search rules)
    (λ c. search rules)
    (λ c κs. search rules)
    (λ c. search rules)
    (λ c κs. search rules)
    (λ c. search rules)
    (λ c κs. search rules)
    (λ c. search order_read depth 8))
