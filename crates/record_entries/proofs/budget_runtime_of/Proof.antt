-- Every part is read from the definition's words.
use Rattle.record_entries.specs.RecordWords.{budget_runtime_of}
use borrow.Author.Rules.{rules}
use Rattle.record_entries.proofs.budget_runtime_of.Statement.{statement}
use Rattle.record_entries.proofs.budget_runtime_of.Tie as tie

pub budget_runtime_of_spec : {M : Type 1} → statement M
unfolding budget_runtime_of
budget_runtime_of_spec =
    tie.close
    (tie.spec
    (λ c. search rules)
    (λ c. search rules)
    (λ c κs. search rules)
    (λ c. search rules)
    (λ c. search rules)
    (λ c. cc))
