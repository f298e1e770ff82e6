-- The words stand for the arguments, the call answers by its own contract, and its answer is stored.
use Rattle.algorithms.specs.Runtime.{next_deadline}
use Rattle.record_entries.specs.EntryLaws.{told_by, on_five}
use borrow.Author.Rules.{rules}
use Rattle.record_entries.proofs.runtime_next_deadline.Statement.{statement}
use Rattle.record_entries.proofs.runtime_next_deadline.Tie as tie

pub runtime_next_deadline_spec : {M : Type 1} → statement M
runtime_next_deadline_spec =
    tie.close
    (tie.spec
    (λ c κs. search rules)
    (λ c κs. search rules)
    (λ c κs. search rules)
    (λ c κs. search rules)
    (λ c. (search (told_by, on_five next_deadline) depth 8, (search, search))))
