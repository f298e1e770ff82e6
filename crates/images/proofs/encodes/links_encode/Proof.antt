-- What is asked of the words, in the definition's order.
use Rattle.refusal.specs.Cases.{cases}
use Rattle.images.specs.Encodes.{links_encode}
use borrow.Author.Rules.{rules}
use Rattle.images.proofs.encodes.links_encode.Statement.{statement}
use Rattle.images.proofs.encodes.links_encode.Tie as tie

pub links_encode_spec : {M : Type 1} → statement M
unfolding links_encode
links_encode_spec =
    tie.close
    (tie.spec
    (λ c. search rules)
    (λ c. search rules)
    (λ c κs. search rules)
    (λ c. search cases depth 8)
    (λ c. search rules)
    (λ c. search rules)
    (λ c κs. search rules)
    (λ c. search cases depth 8)
    (λ c. search rules)
    (λ c. search cases depth 8))
