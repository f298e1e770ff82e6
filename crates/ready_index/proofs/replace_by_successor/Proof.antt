-- The calls stand in the order of the definition, and the first part of the path stays.
use Rattle.ready_index.specs.LoopLaws.{successor_within}
use Rattle.ready_index.specs.WaysLaws.{ways}
use Rattle.rows.specs.Frame.{framing}
use borrow.Author.Rules.{rules}
use Rattle.ready_index.proofs.replace_by_successor.Statement.{statement}
use Rattle.ready_index.proofs.replace_by_successor.Tie as tie

pub replace_by_successor_spec : {M : Type 1} → statement M
replace_by_successor_spec =
    tie.close
    (tie.spec
    (λ c κs. search rules)
    (λ c. search rules)
    (λ c. search rules)
    (λ c. search rules)
    (λ c. search rules)
    (λ c. (search ways depth 8, (search, search framing depth 8)))
    (λ c κs. search successor_within)
    (λ c. search rules)
    (λ c. search rules)
    (λ c. search rules)
    (λ c. search rules)
    (λ c. (search ways depth 8, (search, search framing depth 8)))
    (λ c κs. search rules)
    (λ c. search rules)
    (λ c. search rules)
    (λ c. (search ways depth 8, (search, search framing depth 8))))
