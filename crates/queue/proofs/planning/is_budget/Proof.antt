-- One case for each policy.
use Rattle.policy.specs.PolicyCases.{policies}
use Rattle.queue.specs.Queue.{is_budget}
use borrow.Author.Rules.{rules}
use Rattle.queue.proofs.planning.is_budget.Statement.{statement}
use Rattle.queue.proofs.planning.is_budget.Tie as tie

pub is_budget_spec : {M : Type 1} → statement M
unfolding is_budget
is_budget_spec =
    tie.close
    (tie.spec
    (λ c. search rules)
    (λ c. search rules)
    (λ c. search rules)
    (λ c. search rules)
    (λ c. search policies depth 8)
    (λ c. search policies depth 8)
    (λ c. search policies depth 8)
    (λ c. search policies depth 8))
