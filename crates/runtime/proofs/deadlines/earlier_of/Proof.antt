-- The window's answer.
use Rattle.runtime.specs.RuntimeLaws.{budgets}
use borrow.Author.Rules.{rules}
use Rattle.runtime.proofs.deadlines.earlier_of.Statement.{statement}
use Rattle.runtime.proofs.deadlines.earlier_of.Tie as tie

pub earlier_of_spec : {M : Type 1} → statement M
earlier_of_spec =
    tie.close
    (tie.spec
    (λ c. search rules)
    (λ c. search rules)
    (λ c κs. search rules)
    (λ c. search budgets depth 8)
    (λ c. search budgets depth 8))
