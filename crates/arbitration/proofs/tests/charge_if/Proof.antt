use Rattle.refusal.specs.Cases.{cases}
use Rattle.arbitration.proofs.tests.charge_if.Statement.{statement}
use Rattle.arbitration.proofs.tests.charge_if.Tie as tie

pub charge_if_spec : {M : Type 1} → statement M
charge_if_spec =
    tie.close
    (tie.spec
    (λ c. search cases depth 8)
    (λ c. search cases depth 8))
