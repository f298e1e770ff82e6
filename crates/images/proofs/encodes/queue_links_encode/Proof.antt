-- What is asked of the words, in the definition's order.
use Rattle.refusal.specs.Cases.{cases}
use Rattle.images.specs.Encodes.{queue_links_encode}
use borrow.Author.Rules.{rules}
use Rattle.images.proofs.encodes.queue_links_encode.Statement.{statement}
use Rattle.images.proofs.encodes.queue_links_encode.Tie as tie

pub queue_links_encode_spec : {M : Type 1} → statement M
unfolding queue_links_encode
queue_links_encode_spec =
    tie.close
    (tie.spec
    (λ c. search rules)
    (λ c. search rules)
    (λ c κs. search rules)
    (λ c. search cases depth 8)
    (λ c. search rules)
    (λ c. search rules)
    (λ c κs. search rules)
    (λ c. search cases depth 8)
    (λ c. search rules)
    (λ c. search rules)
    (λ c. search rules)
    (λ c κs. search rules)
    (λ c. search cases depth 8))
