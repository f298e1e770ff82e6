use Rattle.refusal.specs.Cases.{cases}
use Rattle.policy.specs.PolicyCases.{policies}
use Rattle.algorithms.specs.RuntimeLaws.{runtimes}
use Rattle.algorithms.specs.Runtime.{next_deadline}
use borrow.Author.Rules.{rules}
use Rattle.algorithms.proofs.PolicyRuntime.next_deadline.Statement.{statement}
use Rattle.algorithms.proofs.PolicyRuntime.next_deadline.Tie as tie

pub next_deadline_spec : {M : Type 1} → statement M
unfolding next_deadline
next_deadline_spec =
    tie.close
    (tie.spec
    (λ c. search (cases, policies, runtimes) depth 8)
    (λ c. search rules)
    (λ c. search rules)
    (λ c κs. search rules)
    (λ c. search rules)
    (λ c. search rules)
    (λ c. search rules)
    (λ c κs. search rules)
    (λ c κs. search rules)
    (λ c. search rules)
    (λ c. search (cases, policies, runtimes) depth 8)
    (λ c. search (cases, policies, runtimes) depth 8)
    (λ c. search (cases, policies, runtimes) depth 8)
    (λ c. search (cases, policies, runtimes) depth 8)
    (λ c. search (cases, policies, runtimes) depth 8))
