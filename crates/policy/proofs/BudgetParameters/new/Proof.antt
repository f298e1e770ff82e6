use Rattle.refusal.specs.Cases.{cases}
use Rattle.policy.specs.Budget.{new_budget}
use borrow.Author.Rules.{rules}
use Rattle.policy.proofs.BudgetParameters.new.Statement.{statement}
use Rattle.policy.proofs.BudgetParameters.new.Tie as tie

pub new_spec : {M : Type 1} → statement M
unfolding new_budget
new_spec =
    tie.close
    (tie.spec
    (λ c κs. search rules)
    (λ c. search cases depth 8)
    (λ c. search cases depth 8))
