-- Its parts.
use Rattle.demands.specs.DemandRows.{by_rows}
use borrow.Author.Rules.{rules}
use Rattle.demands.proofs.candidate_of_row.Statement.{statement}
use Rattle.demands.proofs.candidate_of_row.Tie as tie

pub candidate_of_row_spec : {M : Type 1} → statement M
candidate_of_row_spec =
    tie.close
    (tie.spec
    (λ c κs. search rules)
    (λ c κs. search rules)
    (λ c κs. search rules)
    (λ c. search rules)
    (λ c. search by_rows depth 8))
