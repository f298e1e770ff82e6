use Rattle.policy.specs.PolicyCases.{policies}
use Rattle.arbitration.specs.Window.{is_protected}
use borrow.Author.Rules.{rules}
use Rattle.arbitration.proofs.tests.is_protected.Statement.{statement}
use Rattle.arbitration.proofs.tests.is_protected.Tie as tie

pub is_protected_spec : {M : Type 1} → statement M
unfolding is_protected
is_protected_spec =
    tie.close
    (tie.spec
    (λ c. search rules)
    (λ c. search rules)
    (λ c. search rules)
    (λ c. search policies depth 8)
    (λ c. search policies depth 8)
    (λ c. search policies depth 8))
