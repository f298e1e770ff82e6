-- The tests, in order.
use Rattle.refusal.specs.Cases.{cases}
use Rattle.runtime.specs.Rows.{budget_end}
use Rattle.runtime.specs.RuntimeLaws.{budgets}
use Rattle.rows.specs.Frame.{framing}
use borrow.Author.Rules.{rules}
use Rattle.runtime.proofs.deadlines.budget_end.Statement.{statement}
use Rattle.runtime.proofs.deadlines.budget_end.Tie as tie

pub budget_end_spec : {M : Type 1} → statement M
unfolding budget_end
budget_end_spec =
    tie.close
    (tie.spec
    (λ c. (search (cases, budgets) depth 8, search framing depth 8))
    (λ c κs. search rules)
    (λ c. search rules)
    (λ c κs. search rules)
    (λ c. (search (cases, budgets) depth 8, search framing depth 8))
    (λ c κs. search rules)
    (λ c. search rules)
    (λ c. (search (cases, budgets) depth 8, search framing depth 8)))
