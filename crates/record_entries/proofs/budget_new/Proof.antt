-- The words stand for the arguments, the call answers by its own contract, and its answer is stored.
use Rattle.budget.specs.Runtime.{made}
use Rattle.record_entries.specs.EntryLaws.{told_by, on_one}
use borrow.Author.Rules.{rules}
use Rattle.record_entries.proofs.budget_new.Statement.{statement}
use Rattle.record_entries.proofs.budget_new.Tie as tie

pub budget_new_spec : {M : Type 1} → statement M
budget_new_spec =
    tie.close
    (tie.spec
    (λ c κs. search rules)
    (λ c κs. search rules)
    (λ c κs. search rules)
    (λ c. (search (told_by, on_one made) depth 8, search)))
