use Rattle.refusal.specs.Cases.{cases}
use Rattle.policy.specs.Parameters.{new_fair}
use Rattle.policy.proofs.SchedulingParameters.fair.Statement.{statement}
use Rattle.policy.proofs.SchedulingParameters.fair.Tie as tie

pub fair_spec : {M : Type 1} → statement M
unfolding new_fair
fair_spec =
    tie.close
    (tie.spec
    (λ c. search cases depth 8)
    (λ c. search cases depth 8)
    (λ c. search cases depth 8))
