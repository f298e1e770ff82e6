-- The words stand for the arguments, the call answers by its own contract, and its answer is stored.
use Rattle.budget.specs.Runtime.{deadline_judged}
use Rattle.record_entries.specs.EntryLaws.{told_by, on_four}
use borrow.Author.Rules.{rules}
use Rattle.record_entries.proofs.budget_deadline.Statement.{statement}
use Rattle.record_entries.proofs.budget_deadline.Tie as tie

pub budget_deadline_spec : {M : Type 1} → statement M
budget_deadline_spec =
    tie.close
    (tie.spec
    (λ c κs. search rules)
    (λ c κs. search rules)
    (λ c κs. search rules)
    (λ c κs. search rules)
    (λ c. (search (told_by, on_four deadline_judged) depth 8, (search, search))))
