-- The words stand for the arguments, and the call answers by its own contract.
use Rattle.window_entries.specs.EntryLaws.{entries}
use borrow.Author.Rules.{rules}
use Rattle.window_entries.proofs.config_with_prefer_fair.Statement.{statement}
use Rattle.window_entries.proofs.config_with_prefer_fair.Tie as tie

pub config_with_prefer_fair_spec : {M : Type 1} → statement M
config_with_prefer_fair_spec =
    tie.close
    (tie.spec
    (λ c κs. search rules)
    (λ c κs. search rules)
    (λ c κs. search rules)
    (λ c. search entries depth 8))
