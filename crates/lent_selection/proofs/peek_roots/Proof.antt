-- The rows of the roots, then their heads.
use Rattle.lent_selection.specs.LentLaws.{peeks}
use Rattle.rows.specs.Frame.{framing}
use borrow.Author.Rules.{rules}
use Rattle.lent_selection.proofs.peek_roots.Statement.{statement}
use Rattle.lent_selection.proofs.peek_roots.Tie as tie

pub peek_roots_spec : {M : Type 1} → statement M
peek_roots_spec =
    tie.close
    (tie.spec
    (λ c. search rules)
    (λ c. search rules)
    (λ c. search rules)
    (λ c. search rules)
    (λ c κs. search rules)
    (λ c. search rules)
    (λ c. (search peeks depth 8, search framing depth 8)))
