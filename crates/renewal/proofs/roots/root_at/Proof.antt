-- The row of the root, or none.
use Rattle.renewal.specs.RootRows.{root_rows_lem}
use borrow.Author.Rules.{rules}
use Rattle.renewal.proofs.roots.root_at.Statement.{statement}
use Rattle.renewal.proofs.roots.root_at.Tie as tie

pub root_at_spec : {M : Type 1} → statement M
root_at_spec =
    tie.close
    (tie.spec
    (λ c. search rules)
    (λ c. search rules)
    (λ c. search rules)
    (λ c. search rules)
    (λ c κs. search rules)
    (λ c. search root_rows_lem depth 8)
    (λ c. search root_rows_lem depth 8))
