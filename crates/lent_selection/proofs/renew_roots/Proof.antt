-- The rows of the roots, and the other rows as they were.
use Rattle.lent_selection.specs.LentLaws.{renewals, roots_framed}
use Rattle.rows.specs.Frame.{framing}
use borrow.Author.Rules.{rules}
use Rattle.lent_selection.proofs.renew_roots.Statement.{statement}
use Rattle.lent_selection.proofs.renew_roots.Tie as tie

pub renew_roots_spec : {M : Type 1} → statement M
renew_roots_spec =
    tie.close
    (tie.spec
    (λ c. search rules)
    (λ c. search rules)
    (λ c. search rules)
    (λ c. search rules)
    (λ c κs. search rules)
    (λ c. search rules)
    (λ c. search rules)
    (λ c. (search (renewals, rules) depth 8, (search framing depth 8, search (roots_framed, rules) depth 8))))
