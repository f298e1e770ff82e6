-- One law for each way through the judgement.
use Rattle.runtime.specs.RuntimeLaws.{ways}
use Rattle.rows.specs.Unmoved.{unmoving}
use Rattle.rows.specs.Frame.{framing}
use borrow.Author.Rules.{rules}
use Rattle.runtime.proofs.deadlines.due_at.Statement.{statement}
use Rattle.runtime.proofs.deadlines.due_at.Tie as tie

pub due_at_spec : {M : Type 1} → statement M
due_at_spec =
    tie.close
    (tie.spec
    (λ c κs. search rules)
    (λ c. search rules)
    (λ c. (search (ways, unmoving) depth 8, (search (ways, unmoving) depth 8, search framing depth 8)))
    (λ c. search rules)
    (λ c κs. search rules)
    (λ c. search rules)
    (λ c. (search (ways, unmoving) depth 8, (search (ways, unmoving) depth 8, search framing depth 8)))
    (λ c. search rules)
    (λ c κs. search rules)
    (λ c. search rules)
    (λ c. (search (ways, unmoving) depth 8, (search (ways, unmoving) depth 8, search framing depth 8)))
    (λ c. (search (ways, unmoving) depth 8, (search (ways, unmoving) depth 8, search framing depth 8))))
