use Rattle.refusal.specs.Cases.{cases}
use Rattle.policy.specs.Parameters.{new_weight}
use Rattle.policy.proofs.ThreadWeight.new.Statement.{statement}
use Rattle.policy.proofs.ThreadWeight.new.Tie as tie

pub new_spec : {M : Type 1} → statement M
unfolding new_weight
new_spec =
    tie.close
    (tie.spec
    (λ c. search cases depth 8)
    (λ c. search cases depth 8)
    (λ c. search cases depth 8))
