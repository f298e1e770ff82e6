use Rattle.refusal.specs.Cases.{cases}
use Rattle.policy.specs.PolicyCases.{policies}
use Rattle.algorithms.specs.RuntimeLaws.{runtimes}
use Rattle.algorithms.specs.Runtime.{candidate_key}
use borrow.Author.Rules.{rules}
use Rattle.algorithms.proofs.PolicyRuntime.candidate_key.Statement.{statement}
use Rattle.algorithms.proofs.PolicyRuntime.candidate_key.Tie as tie

pub candidate_key_spec : {M : Type 1} → statement M
unfolding candidate_key
candidate_key_spec =
    tie.close
    (tie.spec
    (λ c. search rules)
    (λ c. search rules)
    (λ c. search rules)
    (λ c. search rules)
    (λ c. search rules)
    (λ c. search rules)
    (λ c. search (cases, policies, runtimes) depth 8)
    (λ c. search (cases, policies, runtimes) depth 8)
    (λ c. search (cases, policies, runtimes) depth 8)
    (λ c. search (cases, policies, runtimes) depth 8)
    (λ c. search (cases, policies, runtimes) depth 8))
