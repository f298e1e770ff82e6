use Rattle.refusal.specs.Cases.{cases}
use Rattle.policy.specs.PolicyCases.{policies}
use Rattle.algorithms.specs.RuntimeLaws.{runtimes}
use Rattle.algorithms.specs.Runtime.{accounted}
use borrow.Author.Rules.{rules}
use Rattle.algorithms.proofs.PolicyRuntime.account.Statement.{statement}
use Rattle.algorithms.proofs.PolicyRuntime.account.Tie as tie

pub account_spec : {M : Type 1} → statement M
unfolding accounted
account_spec =
    tie.close
    (tie.spec
    (λ c κs. search rules)
    (λ c. search (cases, policies, runtimes) depth 8)
    (λ c. search rules)
    (λ c κs. search rules)
    (λ c. search rules)
    (λ c κs. search rules)
    (λ c. search rules)
    (λ c. search rules)
    (λ c. search rules)
    (λ c κs. search rules)
    (λ c κs. search rules)
    (λ c. search rules)
    (λ c κs. search rules)
    (λ c. search (cases, policies, runtimes) depth 8)
    (λ c. search (cases, policies, runtimes) depth 8)
    (λ c. search (cases, policies, runtimes) depth 8)
    (λ c. search (cases, policies, runtimes) depth 8)
    (λ c. search (cases, policies, runtimes) depth 8))
