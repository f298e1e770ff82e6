use Rattle.refusal.specs.Cases.{cases}
use Rattle.policy.specs.PolicyCases.{policies}
use Rattle.algorithms.specs.RuntimeLaws.{runtimes}
use Rattle.algorithms.specs.Runtime.{turn_finished}
use borrow.Author.Rules.{rules}
use Rattle.algorithms.proofs.PolicyRuntime.finish_turn.Statement.{statement}
use Rattle.algorithms.proofs.PolicyRuntime.finish_turn.Tie as tie

pub finish_turn_spec : {M : Type 1} → statement M
unfolding turn_finished
finish_turn_spec =
    tie.close
    (tie.spec
    (λ c. search rules)
    (λ c. search rules)
    (λ c. search rules)
    (λ c. search rules)
    (λ c. search rules)
    (λ c κs. search rules)
    (λ c κs. search rules)
    (λ c. search rules)
    (λ c. search (cases, policies, runtimes) depth 8)
    (λ c. search (cases, policies, runtimes) depth 8)
    (λ c. search (cases, policies, runtimes) depth 8)
    (λ c. search (cases, policies, runtimes) depth 8)
    (λ c. search (cases, policies, runtimes) depth 8))
