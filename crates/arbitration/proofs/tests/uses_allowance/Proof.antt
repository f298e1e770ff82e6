use Rattle.arbitration.specs.ArbitrationLaws.{modes}
use Rattle.arbitration.specs.Window.{uses_allowance}
use borrow.Author.Rules.{rules}
use Rattle.arbitration.proofs.tests.uses_allowance.Statement.{statement}
use Rattle.arbitration.proofs.tests.uses_allowance.Tie as tie

pub uses_allowance_spec : {M : Type 1} → statement M
unfolding uses_allowance
uses_allowance_spec =
    tie.close
    (tie.spec
    (λ c. search rules)
    (λ c κs. search rules)
    (λ c. search rules)
    (λ c. search rules)
    (λ c κs. search rules)
    (λ c. search rules)
    (λ c κs. search rules)
    (λ c. search rules)
    (λ c κs. search rules)
    (λ c. search modes depth 8)
    (λ c. search modes depth 8)
    (λ c. search modes depth 8)
    (λ c. search modes depth 8)
    (λ c. search modes depth 8))
