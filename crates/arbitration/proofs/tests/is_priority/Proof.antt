use Rattle.policy.specs.PolicyCases.{policies}
use Rattle.arbitration.specs.Window.{is_priority}
use borrow.Author.Rules.{rules}
use Rattle.arbitration.proofs.tests.is_priority.Statement.{statement}
use Rattle.arbitration.proofs.tests.is_priority.Tie as tie

pub is_priority_spec : {M : Type 1} → statement M
unfolding is_priority
is_priority_spec =
    tie.close
    (tie.spec
    (λ c. search rules)
    (λ c. search rules)
    (λ c. search rules)
    (λ c. search policies depth 8)
    (λ c. search policies depth 8)
    (λ c. search policies depth 8))
