-- Parameters that were made are stored, and none is told as 0.
use Rattle.record_entries.specs.EntryLaws.{entries}
use borrow.Author.Rules.{rules}
use Rattle.record_entries.proofs.store_parameters.Statement.{statement}
use Rattle.record_entries.proofs.store_parameters.Tie as tie

pub store_parameters_spec : {M : Type 1} → statement M
store_parameters_spec =
    tie.close
    (tie.spec
    (λ c. search rules)
    (λ c κs. search rules)
    (λ c. search rules)
    (λ c. search entries depth 8)
    (λ c. search entries depth 8))
