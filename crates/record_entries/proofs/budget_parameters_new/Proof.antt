-- The parameters that are made are stored through their readers, a refusal's number is told.
use Rattle.record_entries.specs.EntryLaws.{entries}
use mathlib.Core.Path.{refl}
use borrow.Author.Rules.{rules}
use Rattle.record_entries.proofs.budget_parameters_new.Statement.{statement}
use Rattle.record_entries.proofs.budget_parameters_new.Tie as tie

pub budget_parameters_new_spec : {M : Type 1} → statement M
budget_parameters_new_spec =
    tie.close
    (tie.spec
    (λ c κs. search rules)
    (λ c. search rules)
    (λ c κs. search rules)
    (λ c κs. search rules)
    (λ c κs. search rules)
    (λ c. search rules)
    (λ c κs. search rules)
    (λ c. (search entries depth 8, λ h. absurd (h refl)))
    (λ c. (search entries depth 8, λ h. refl)))
