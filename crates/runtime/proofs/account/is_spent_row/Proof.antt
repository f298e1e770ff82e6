-- The runtime's tag, then what is left.
use Rattle.refusal.specs.Cases.{cases}
use Rattle.runtime.specs.Rows.{spent_row}
use Rattle.runtime.specs.RuntimeLaws.{budgets}
use borrow.Author.Rules.{rules}
use Rattle.runtime.proofs.account.is_spent_row.Statement.{statement}
use Rattle.runtime.proofs.account.is_spent_row.Tie as tie

pub is_spent_row_spec : {M : Type 1} → statement M
unfolding spent_row
is_spent_row_spec =
    tie.close
    (tie.spec
    (λ c. search rules)
    (λ c. search rules)
    (λ c. search (cases, budgets) depth 8)
    (λ c. search (cases, budgets) depth 8)
    (λ c. search rules)
    (λ c. search rules)
    (λ c. search (cases, budgets) depth 8)
    (λ c. search (cases, budgets) depth 8)
    (λ c. search (cases, budgets) depth 8))
