-- The words of each case stand for it.
use Rattle.record_entries.specs.EntryLaws.{entries}
use borrow.Author.Rules.{rules}
use Rattle.record_entries.proofs.words_of_priority.Statement.{statement}
use Rattle.record_entries.proofs.words_of_priority.Tie as tie

pub words_of_priority_spec : {M : Type 1} → statement M
words_of_priority_spec =
    tie.close
    (tie.spec
    (λ c. search rules)
    (λ c κs. search rules)
    (λ c κs. search rules)
    (λ c. search rules)
    (λ c. search entries depth 8)
    (λ c. search entries depth 8))
