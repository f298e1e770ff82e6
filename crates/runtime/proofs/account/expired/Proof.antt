-- One law for each way through the judgement.
use Rattle.runtime.specs.RuntimeLaws.{ways}
use borrow.Author.Rules.{rules}
use Rattle.runtime.proofs.account.expired.Statement.{statement}
use Rattle.runtime.proofs.account.expired.Tie as tie

pub expired_spec : {M : Type 1} → statement M
expired_spec =
    tie.close
    (tie.spec
    (λ c. search ways depth 8)
    (λ c κs. search rules)
    (λ c. search ways depth 8)
    (λ c. search rules)
    (λ c. search rules)
    (λ c κs. search rules)
    (λ c. search ways depth 8)
    (λ c. search ways depth 8))
