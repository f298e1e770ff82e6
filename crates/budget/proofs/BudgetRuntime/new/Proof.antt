use Rattle.refusal.specs.Cases.{cases}
use Rattle.budget.specs.Runtime.{judged, made}
use borrow.Author.Rules.{rules}
use Rattle.budget.proofs.BudgetRuntime.new.Statement.{statement}
use Rattle.budget.proofs.BudgetRuntime.new.Tie as tie

pub new_spec : {M : Type 1} → statement M
unfolding judged made
new_spec =
    tie.close
    (tie.spec
    (λ c κs. search rules)
    (λ c. search cases depth 8)
    (λ c. search cases depth 8))
