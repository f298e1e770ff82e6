use Rattle.refusal.specs.Cases.{cases}
use Rattle.arbitration.specs.Window.{at_renewal}
use Rattle.arbitration.proofs.tests.at_renewal.Statement.{statement}
use Rattle.arbitration.proofs.tests.at_renewal.Tie as tie

pub at_renewal_spec : {M : Type 1} → statement M
unfolding at_renewal
at_renewal_spec =
    tie.close
    (tie.spec
    (λ c. search cases depth 8)
    (λ c. search cases depth 8)
    (λ c. search cases depth 8))
