-- The words stand for the arguments, the call answers by its own contract, and its answer is stored.
use Rattle.budget.specs.Runtime.{period_deadline}
use Rattle.record_entries.specs.EntryLaws.{told_by, on_two}
use borrow.Author.Rules.{rules}
use Rattle.record_entries.proofs.budget_period_deadline.Statement.{statement}
use Rattle.record_entries.proofs.budget_period_deadline.Tie as tie

pub budget_period_deadline_spec : {M : Type 1} → statement M
budget_period_deadline_spec =
    tie.close
    (tie.spec
    (λ c κs. search rules)
    (λ c κs. search rules)
    (λ c κs. search rules)
    (λ c. (search (told_by, on_two period_deadline) depth 8, search)))
