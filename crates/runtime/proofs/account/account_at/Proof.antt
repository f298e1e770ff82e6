-- One law for each way through the judgement.
use Rattle.runtime.specs.RuntimeLaws.{ways}
use Rattle.rows.specs.Frame.{framing}
use borrow.Author.Rules.{rules}
use Rattle.runtime.proofs.account.account_at.Statement.{statement}
use Rattle.runtime.proofs.account.account_at.Tie as tie

pub account_at_spec : {M : Type 1} → statement M
account_at_spec =
    tie.close
    (tie.spec
    (λ c κs. search rules)
    (λ c. search rules)
    (λ c. (search ways depth 8, (search ways depth 8, search framing depth 8)))
    (λ c κs. search rules)
    (λ c. search rules)
    (λ c. (search ways depth 8, (search ways depth 8, search framing depth 8)))
    (λ c. (search ways depth 8, (search ways depth 8, search framing depth 8))))
