use Rattle.refusal.specs.Cases.{cases}
use Rattle.arbitration.specs.Key.{shut_out}
use Rattle.arbitration.proofs.tests.is_shut_out.Statement.{statement}
use Rattle.arbitration.proofs.tests.is_shut_out.Tie as tie

pub is_shut_out_spec : {M : Type 1} → statement M
unfolding shut_out
is_shut_out_spec =
    tie.close
    (tie.spec
    (λ c. search cases depth 8)
    (λ c. search cases depth 8)
    (λ c. search cases depth 8))
