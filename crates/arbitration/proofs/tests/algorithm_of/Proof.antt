-- The match goes by the policy and the backend, as the definition does.
use Rattle.refusal.specs.Cases.{cases}
use Rattle.policy.specs.PolicyCases.{policies}
use borrow.Author.Rules.{rules}
use Rattle.arbitration.proofs.tests.algorithm_of.Statement.{statement}
use Rattle.arbitration.proofs.tests.algorithm_of.Tie as tie

pub algorithm_of_spec : {M : Type 1} → statement M
algorithm_of_spec =
    tie.close
    (tie.spec
    (λ c. search rules)
    (λ c κs. search rules)
    (λ c κs. search rules)
    (λ c. search rules)
    (λ c. search rules)
    (λ c κs. search rules)
    (λ c. search rules)
    (λ c κs. search rules)
    (λ c. search rules)
    (λ c κs. search rules)
    (λ c. search rules)
    (λ c. search (cases, policies) depth 8)
    (λ c. search (cases, policies) depth 8)
    (λ c. search (cases, policies) depth 8)
    (λ c. search (cases, policies) depth 8)
    (λ c. search (cases, policies) depth 8))
