-- One law for each way through the judgement.
use Rattle.runtime.specs.RuntimeLaws.{ways}
use Rattle.rows.specs.Frame.{framing}
use borrow.Author.Rules.{rules}
use Rattle.runtime.proofs.prepare.prepare_enqueue.Statement.{statement}
use Rattle.runtime.proofs.prepare.prepare_enqueue.Tie as tie

pub prepare_enqueue_spec : {M : Type 1} → statement M
prepare_enqueue_spec =
    tie.close
    (tie.spec
    (λ c. (search ways depth 8, (search ways depth 8, search framing depth 8)))
    (λ c κs. search rules)
    (λ c. search rules)
    (λ c. (search ways depth 8, (search ways depth 8, search framing depth 8)))
    (λ c κs. search rules)
    (λ c. search rules)
    (λ c. (search ways depth 8, (search ways depth 8, search framing depth 8)))
    (λ c. (search ways depth 8, (search ways depth 8, search framing depth 8))))
