-- What is asked of the words, in the definition's order.
use Rattle.refusal.specs.Cases.{cases}
use Rattle.images.specs.Encodes.{option_encodes}
use Rattle.images.proofs.encodes.option_encodes.Statement.{statement}
use Rattle.images.proofs.encodes.option_encodes.Tie as tie

pub option_encodes_spec : {M : Type 1} → statement M
unfolding option_encodes
option_encodes_spec =
    tie.close
    (tie.spec
    (λ c. search cases depth 8)
    (λ c. search cases depth 8))
