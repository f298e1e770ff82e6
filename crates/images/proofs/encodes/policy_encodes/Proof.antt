-- What is asked of the words, in the definition's order.
use Rattle.refusal.specs.Cases.{cases}
use Rattle.images.specs.Encodes.{policy_encodes}
use Rattle.images.proofs.encodes.policy_encodes.Statement.{statement}
use Rattle.images.proofs.encodes.policy_encodes.Tie as tie

pub policy_encodes_spec : {M : Type 1} → statement M
unfolding policy_encodes
policy_encodes_spec =
    tie.close
    (tie.spec
    (λ c. search cases depth 8)
    (λ c. search cases depth 8)
    (λ c. search cases depth 8))
