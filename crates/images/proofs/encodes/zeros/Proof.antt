-- What is asked of the words, in the definition's order.
use Rattle.refusal.specs.Cases.{cases}
use Rattle.images.specs.Encodes.{zeros}
use Rattle.images.proofs.encodes.zeros.Statement.{statement}
use Rattle.images.proofs.encodes.zeros.Tie as tie

pub zeros_spec : {M : Type 1} → statement M
unfolding zeros
zeros_spec =
    tie.close
    (tie.spec
    (λ c. search cases depth 8)
    (λ c. search cases depth 8)
    (λ c. search cases depth 8))
