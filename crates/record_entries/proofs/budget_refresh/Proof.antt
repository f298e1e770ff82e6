-- The words stand for the arguments, the call answers by its own contract, and its answer is stored.
use Rattle.record_entries.specs.EntryLaws.{told_by, on_three}
use Rattle.budget.specs.Runtime.{refreshed_judged}
use borrow.Author.Rules.{rules}
use Rattle.record_entries.proofs.budget_refresh.Statement.{statement}
use Rattle.record_entries.proofs.budget_refresh.Tie as tie

pub budget_refresh_spec : {M : Type 1} → statement M
budget_refresh_spec =
    tie.close
    (tie.spec
    (λ c κs. search rules)
    (λ c κs. search rules)
    (λ c κs. search rules)
    (λ c κs. search rules)
    (λ c. (search (told_by, on_three refreshed_judged) depth 8, search)))
