-- The two tests.
use Rattle.refusal.specs.Cases.{cases}
use Rattle.decisions.specs.Switch.{goes_to_front}
use Rattle.decisions.proofs.switching.goes_to_front.Statement.{statement}
use Rattle.decisions.proofs.switching.goes_to_front.Tie as tie

pub goes_to_front_spec : {M : Type 1} → statement M
unfolding goes_to_front
goes_to_front_spec =
    tie.close
    (tie.spec
    (λ c. search cases depth 8)
    (λ c. search cases depth 8))
