-- The tests of the policy's tag, in order.
use Rattle.refusal.specs.Cases.{cases}
use Rattle.demands.specs.DemandRows.{lowest_row, by_rows}
use borrow.Author.Rules.{rules}
use Rattle.demands.proofs.lowest_with_row.Statement.{statement}
use Rattle.demands.proofs.lowest_with_row.Tie as tie

pub lowest_with_row_spec : {M : Type 1} → statement M
unfolding lowest_row
lowest_with_row_spec =
    tie.close
    (tie.spec
    (λ c. search rules)
    (λ c. search (cases, by_rows) depth 8)
    (λ c. search rules)
    (λ c κs. search rules)
    (λ c κs. search rules)
    (λ c. search (cases, by_rows) depth 8)
    (λ c. search (cases, by_rows) depth 8))
