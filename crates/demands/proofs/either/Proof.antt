-- The first decides, else the second.
use Rattle.refusal.specs.Cases.{cases}
use Rattle.demands.specs.Demands.{either}
use Rattle.demands.proofs.either.Statement.{statement}
use Rattle.demands.proofs.either.Tie as tie

pub either_spec : {M : Type 1} → statement M
unfolding either
either_spec =
    tie.close
    (tie.spec
    (λ c. search cases depth 8)
    (λ c. search cases depth 8))
