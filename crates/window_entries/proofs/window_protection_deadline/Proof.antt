-- The words stand for the arguments, the call answers by its own contract, and its window and answer are stored.
use Rattle.window_entries.specs.EntryLaws.{entries}
use borrow.Author.Rules.{rules}
use Rattle.window_entries.proofs.window_protection_deadline.Statement.{statement}
use Rattle.window_entries.proofs.window_protection_deadline.Tie as tie

pub window_protection_deadline_spec : {M : Type 1} → statement M
window_protection_deadline_spec =
    tie.close
    (tie.spec
    (λ c κs. search rules)
    (λ c κs. search rules)
    (λ c κs. search rules)
    (λ c. (search entries depth 8, (search, search))))
