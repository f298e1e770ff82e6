-- Demand and lowest pass.
use Rattle.demands.specs.DemandRows.{by_rows}
use borrow.Author.Rules.{rules}
use Rattle.demands.proofs.gathered_row.Statement.{statement}
use Rattle.demands.proofs.gathered_row.Tie as tie

pub gathered_row_spec : {M : Type 1} → statement M
gathered_row_spec =
    tie.close
    (tie.spec
    (λ c κs. search rules)
    (λ c κs. search rules)
    (λ c κs. search rules)
    (λ c. search by_rows depth 8))
