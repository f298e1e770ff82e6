use Rattle.refusal.specs.Cases.{cases}
use Rattle.policy.specs.PolicyCases.{policies}
use borrow.Author.Rules.{rules}
use Rattle.arbitration.proofs.tests.is_favoured.Statement.{statement}
use Rattle.arbitration.proofs.tests.is_favoured.Tie as tie

pub is_favoured_spec : {M : Type 1} → statement M
is_favoured_spec =
    tie.close
    (tie.spec
    (λ c. search (cases, policies) depth 8)
    (λ c κs. search rules)
    (λ c. search (cases, policies) depth 8)
    (λ c. search (cases, policies) depth 8)
    (λ c. search rules)
    (λ c. search rules)
    (λ c. search rules)
    (λ c. search rules)
    (λ c. search (cases, policies) depth 8)
    (λ c. search (cases, policies) depth 8)
    (λ c. search (cases, policies) depth 8)
    (λ c. search (cases, policies) depth 8))
