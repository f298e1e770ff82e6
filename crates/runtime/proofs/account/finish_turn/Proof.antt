-- One law for each way through the judgement.
use Rattle.runtime.specs.RuntimeLaws.{ways, good_row}
use Rattle.rows.specs.Frame.{framing}
use borrow.Author.Rules.{rules}
use Rattle.runtime.proofs.account.finish_turn.Statement.{statement}
use Rattle.runtime.proofs.account.finish_turn.Tie as tie

pub finish_turn_spec : {M : Type 1} → statement M
finish_turn_spec =
    tie.close
    (tie.spec
    (λ c. (search ways depth 8, (search ways depth 8, search framing depth 8)))
    (λ c κs. search rules)
    (λ c. search rules)
    (λ c. (search ways depth 8, (search ways depth 8, search framing depth 8)))
    (λ c κs. search (rules, good_row) depth 8)
    (λ c. search rules)
    (λ c. (search ways depth 8, (search ways depth 8, search framing depth 8)))
    (λ c. (search ways depth 8, (search ways depth 8, search framing depth 8))))
