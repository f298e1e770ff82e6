-- The words stand for the arguments, the call answers by its own contract, and its answer is stored.
use Rattle.algorithms.specs.Runtime.{accounted}
use Rattle.record_entries.specs.EntryLaws.{told_by, on_four}
use borrow.Author.Rules.{rules}
use Rattle.record_entries.proofs.runtime_account.Statement.{statement}
use Rattle.record_entries.proofs.runtime_account.Tie as tie

pub runtime_account_spec : {M : Type 1} → statement M
runtime_account_spec =
    tie.close
    (tie.spec
    (λ c κs. search rules)
    (λ c κs. search rules)
    (λ c κs. search rules)
    (λ c κs. search rules)
    (λ c. (search (told_by, on_four accounted) depth 8, search)))
