-- The search decides; the steps that it found lie on the path.
use Rattle.ready_index.specs.LoopLaws.{search_within}
use Rattle.ready_index.specs.WaysLaws.{ways}
use Rattle.rows.specs.Frame.{framing}
use borrow.Author.Rules.{rules}
use Rattle.ready_index.proofs.remove_at.Statement.{statement}
use Rattle.ready_index.proofs.remove_at.Tie as tie

pub remove_at_spec : {M : Type 1} → statement M
remove_at_spec =
    tie.close
    (tie.spec
    (λ c κs. search rules)
    (λ c. search rules)
    (λ c. search rules)
    (λ c. search rules)
    (λ c. search rules)
    (λ c. (search ways depth 8, search framing depth 8))
    (λ c κs. search search_within)
    (λ c. search rules)
    (λ c. search rules)
    (λ c. (search ways depth 8, search framing depth 8)))
