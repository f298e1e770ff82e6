-- The words stand for the arguments, the call answers by its own contract, and its answer is stored.
use Rattle.budget.specs.Runtime.{accounted_interval}
use Rattle.record_entries.specs.EntryLaws.{told_by, on_four}
use borrow.Author.Rules.{rules}
use Rattle.record_entries.proofs.budget_account_interval.Statement.{statement}
use Rattle.record_entries.proofs.budget_account_interval.Tie as tie

pub budget_account_interval_spec : {M : Type 1} → statement M
budget_account_interval_spec =
    tie.close
    (tie.spec
    (λ c κs. search rules)
    (λ c κs. search rules)
    (λ c κs. search rules)
    (λ c κs. search rules)
    (λ c. (search (told_by, on_four accounted_interval) depth 8, search)))
