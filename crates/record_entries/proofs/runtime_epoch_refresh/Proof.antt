-- The words stand for the arguments, the call answers by its own contract, and its answer is stored.
use Rattle.algorithms.specs.Runtime.{epoch_refreshed}
use Rattle.record_entries.specs.EntryLaws.{told_by, on_three}
use borrow.Author.Rules.{rules}
use Rattle.record_entries.proofs.runtime_epoch_refresh.Statement.{statement}
use Rattle.record_entries.proofs.runtime_epoch_refresh.Tie as tie

pub runtime_epoch_refresh_spec : {M : Type 1} → statement M
runtime_epoch_refresh_spec =
    tie.close
    (tie.spec
    (λ c κs. search rules)
    (λ c κs. search rules)
    (λ c κs. search rules)
    (λ c κs. search rules)
    (λ c. (search (told_by, on_three epoch_refreshed) depth 8, search)))
