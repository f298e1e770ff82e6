-- The words stand for the arguments, and the call answers by its own contract.
use Rattle.window_entries.specs.EntryLaws.{entries}
use borrow.Author.Rules.{rules}
use Rattle.window_entries.proofs.dispatch_keys_compare.Statement.{statement}
use Rattle.window_entries.proofs.dispatch_keys_compare.Tie as tie

pub dispatch_keys_compare_spec : {M : Type 1} → statement M
dispatch_keys_compare_spec =
    tie.close
    (tie.spec
    (λ c κs. search rules)
    (λ c κs. search rules)
    (λ c κs. search rules)
    (λ c κs. search rules)
    (λ c. search entries depth 8))
