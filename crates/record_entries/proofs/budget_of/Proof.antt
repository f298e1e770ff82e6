-- Every part is read from the definition's words.
use Rattle.record_entries.specs.RecordWords.{budget_of}
use borrow.Author.Rules.{rules}
use Rattle.record_entries.proofs.budget_of.Statement.{statement}
use Rattle.record_entries.proofs.budget_of.Tie as tie

pub budget_of_spec : {M : Type 1} → statement M
unfolding budget_of
budget_of_spec =
    tie.close
    (tie.spec
    (λ c. search rules)
    (λ c. search rules)
    (λ c. search rules)
    (λ c. cc))
