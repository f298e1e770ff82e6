use Rattle.refusal.specs.Cases.{cases}
use Rattle.policy.specs.PolicyCases.{policies}
use Rattle.algorithms.specs.RuntimeLaws.{runtimes}
use Rattle.algorithms.specs.Runtime.{epoch_refreshed}
use borrow.Author.Rules.{rules}
use Rattle.algorithms.proofs.PolicyRuntime.epoch_refresh.Statement.{statement}
use Rattle.algorithms.proofs.PolicyRuntime.epoch_refresh.Tie as tie

pub epoch_refresh_spec : {M : Type 1} → statement M
unfolding epoch_refreshed
epoch_refresh_spec =
    tie.close
    (tie.spec
    (λ c. search rules)
    (λ c. search rules)
    (λ c. search rules)
    (λ c. search rules)
    (λ c. search rules)
    (λ c κs. search rules)
    (λ c κs. search rules)
    (λ c. search rules)
    (λ c. search (cases, policies, runtimes) depth 8)
    (λ c. search (cases, policies, runtimes) depth 8)
    (λ c. search (cases, policies, runtimes) depth 8)
    (λ c. search (cases, policies, runtimes) depth 8)
    (λ c. search (cases, policies, runtimes) depth 8))
