-- What is asked of the words, in the definition's order.
use Rattle.refusal.specs.Cases.{cases}
use Rattle.images.specs.Encodes.{window_encodes}
use borrow.Author.Rules.{rules}
use Rattle.images.proofs.encodes.window_encodes.Statement.{statement}
use Rattle.images.proofs.encodes.window_encodes.Tie as tie

pub window_encodes_spec : {M : Type 1} → statement M
unfolding window_encodes
window_encodes_spec =
    tie.close
    (tie.spec
    (λ c. search rules)
    (λ c. search cases depth 8)
    (λ c. search rules)
    (λ c. search cases depth 8)
    (λ c. search rules)
    (λ c. search cases depth 8)
    (λ c. search rules)
    (λ c. search cases depth 8)
    (λ c. search rules)
    (λ c. search cases depth 8)
    (λ c. search rules)
    (λ c. search rules)
    (λ c κs. search rules)
    (λ c. search cases depth 8))
