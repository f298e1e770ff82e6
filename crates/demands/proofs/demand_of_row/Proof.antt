-- The tests of the policy's tag, in order.
use Rattle.refusal.specs.Cases.{cases}
use Rattle.demands.specs.DemandRows.{demand_row, by_rows}
use Rattle.demands.specs.DemandLaws.{demanding}
use borrow.Author.Rules.{rules}
use Rattle.demands.proofs.demand_of_row.Statement.{statement}
use Rattle.demands.proofs.demand_of_row.Tie as tie

pub demand_of_row_spec : {M : Type 1} → statement M
unfolding demand_row
demand_of_row_spec =
    tie.close
    (tie.spec
    (λ c. search rules)
    (λ c. search rules)
    (λ c κs. search rules)
    (λ c. search rules)
    (λ c κs. search rules)
    (λ c. search (cases, demanding, by_rows) depth 8)
    (λ c. search rules)
    (λ c. search rules)
    (λ c κs. search rules)
    (λ c. search (cases, demanding, by_rows) depth 8)
    (λ c. search rules)
    (λ c κs. search rules)
    (λ c. search rules)
    (λ c κs. search rules)
    (λ c. search rules)
    (λ c κs. search rules)
    (λ c. search (cases, demanding, by_rows) depth 8)
    (λ c. search (cases, demanding, by_rows) depth 8))
