use Rattle.refusal.specs.Cases.{cases}
use Rattle.algorithms.specs.Runtime.{unless_back}
use Rattle.algorithms.proofs.unless_back.Statement.{statement}
use Rattle.algorithms.proofs.unless_back.Tie as tie

pub unless_back_spec : {M : Type 1} → statement M
unfolding unless_back
unless_back_spec =
    tie.close
    (tie.spec
    (λ c. search cases depth 8)
    (λ c. search cases depth 8))
