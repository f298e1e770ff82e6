-- The way down is made first, and only then is the record stored and the path rebuilt.
use Rattle.ready_index.specs.CasesLaws.{made_anew}
use Rattle.ready_index.specs.LoopLaws.{walk_within}
use Rattle.ready_index.specs.WaysLaws.{ways}
use Rattle.rows.specs.Frame.{framing}
use borrow.Author.Rules.{rules}
use Rattle.ready_index.proofs.insert_at.Statement.{statement}
use Rattle.ready_index.proofs.insert_at.Tie as tie

pub insert_at_spec : {M : Type 1} → statement M
insert_at_spec =
    tie.close
    (tie.spec
    (λ c κs. search rules)
    (λ c. search rules)
    (λ c. search rules)
    (λ c. search rules)
    (λ c. search rules)
    (λ c. (search ways depth 8, search framing depth 8))
    (λ c κs. search rules)
    (λ c. search rules)
    (λ c. search rules)
    (λ c. search rules)
    (λ c. search rules)
    (λ c. (search ways depth 8, search framing depth 8))
    (λ c κs. search walk_within)
    (λ c κs. search rules)
    (λ c. search rules)
    (λ c. search rules)
    (λ c. (search (ways, made_anew) depth 8, search framing depth 8)))
