-- The runtime's tag.
use Rattle.refusal.specs.Cases.{cases}
use Rattle.runtime.specs.Rows.{pass_row}
use Rattle.runtime.specs.RuntimeLaws.{budgets}
use borrow.Author.Rules.{rules}
use Rattle.runtime.proofs.account.pass_of_row.Statement.{statement}
use Rattle.runtime.proofs.account.pass_of_row.Tie as tie

pub pass_of_row_spec : {M : Type 1} → statement M
unfolding pass_row
pass_of_row_spec =
    tie.close
    (tie.spec
    (λ c. search rules)
    (λ c. search rules)
    (λ c. search rules)
    (λ c. search (cases, budgets) depth 8)
    (λ c. search (cases, budgets) depth 8))
