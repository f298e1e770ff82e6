-- The epoch by its words.
use Rattle.runtime.specs.RuntimeLaws.{runtime_read}
use borrow.Author.Rules.{rules}
use Rattle.runtime.proofs.judging.budget_runtime.Statement.{statement}
use Rattle.runtime.proofs.judging.budget_runtime.Tie as tie

pub budget_runtime_spec : {M : Type 1} → statement M
budget_runtime_spec =
    tie.close
    (tie.spec
    (λ c. search rules)
    (λ c. search rules)
    (λ c κs. search rules)
    (λ c. search rules)
    (λ c. search rules)
    (λ c. search runtime_read depth 8))
