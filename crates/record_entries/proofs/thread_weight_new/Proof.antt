-- A weight that is made is read, and there is none otherwise.
use Rattle.record_entries.specs.EntryLaws.{entries}
use borrow.Author.Rules.{rules}
use Rattle.record_entries.proofs.thread_weight_new.Statement.{statement}
use Rattle.record_entries.proofs.thread_weight_new.Tie as tie

pub thread_weight_new_spec : {M : Type 1} → statement M
thread_weight_new_spec =
    tie.close
    (tie.spec
    (λ c κs. search rules)
    (λ c. search rules)
    (λ c κs. search rules)
    (λ c. search rules)
    (λ c. search entries depth 8)
    (λ c. search entries depth 8))
