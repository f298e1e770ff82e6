-- The one row that is stored, or none.
use Rattle.renewal.specs.RootRows.{root_rows_lem}
use Rattle.lent_queue.specs.FrameLaws.{roots_framing, roots_framed}
use borrow.Author.Rules.{rules}
use Rattle.renewal.proofs.roots.set_root.Statement.{statement}
use Rattle.renewal.proofs.roots.set_root.Tie as tie

pub set_root_spec : {M : Type 1} → statement M
set_root_spec =
    tie.close
    (tie.spec
    (λ c. search rules)
    (λ c. search rules)
    (λ c κs. search rules)
    (λ c. search rules)
    (λ c. search rules)
    (λ c. search rules)
    (λ c. search rules)
    (λ c. search rules)
    (λ c. search rules)
    (λ c. search rules)
    (λ c. search rules)
    (λ c. (search root_rows_lem depth 8, search (roots_framing, roots_framed) depth 8))
    (λ c. (search root_rows_lem depth 8, search (roots_framing, roots_framed) depth 8)))
