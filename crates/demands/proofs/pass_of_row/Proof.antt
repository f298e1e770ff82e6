-- The tests of the tags, in order.
use Rattle.refusal.specs.Cases.{cases}
use Rattle.demands.specs.DemandRows.{pass_row, by_rows}
use borrow.Author.Rules.{rules}
use Rattle.demands.proofs.pass_of_row.Statement.{statement}
use Rattle.demands.proofs.pass_of_row.Tie as tie

pub pass_of_row_spec : {M : Type 1} → statement M
unfolding pass_row
pass_of_row_spec =
    tie.close
    (tie.spec
    (λ c. search rules)
    (λ c. search (cases, by_rows) depth 8)
    (λ c. search rules)
    (λ c. search rules)
    (λ c. search rules)
    (λ c. search rules)
    (λ c. search (cases, by_rows) depth 8)
    (λ c. search (cases, by_rows) depth 8)
    (λ c. search (cases, by_rows) depth 8))
