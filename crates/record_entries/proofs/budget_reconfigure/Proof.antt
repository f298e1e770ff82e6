-- The words stand for the arguments, the call answers by its own contract, and its answer is stored.
use Rattle.budget.specs.Runtime.{reconfigured_judged}
use Rattle.record_entries.specs.EntryLaws.{told_by, on_three}
use borrow.Author.Rules.{rules}
use Rattle.record_entries.proofs.budget_reconfigure.Statement.{statement}
use Rattle.record_entries.proofs.budget_reconfigure.Tie as tie

pub budget_reconfigure_spec : {M : Type 1} → statement M
budget_reconfigure_spec =
    tie.close
    (tie.spec
    (λ c κs. search rules)
    (λ c κs. search rules)
    (λ c κs. search rules)
    (λ c κs. search rules)
    (λ c κs. search rules)
    (λ c. (search (told_by, on_three reconfigured_judged) depth 8, search)))
