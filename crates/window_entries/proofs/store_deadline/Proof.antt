-- An accepted step's window and deadline are stored, a refusal's number is told.
use Rattle.window_entries.specs.EntryLaws.{entries}
use mathlib.Core.Path.{refl}
use borrow.Author.Rules.{rules}
use Rattle.window_entries.proofs.store_deadline.Statement.{statement}
use Rattle.window_entries.proofs.store_deadline.Tie as tie

pub store_deadline_spec : {M : Type 1} → statement M
store_deadline_spec =
    tie.close
    (tie.spec
    (λ c. search rules)
    (λ c κs. search rules)
    (λ c κs. search rules)
    (λ c. search rules)
    (λ c κs. search rules)
    (λ c. (search entries depth 8, (λ h. absurd (h refl), λ h. absurd (h refl))))
    (λ c. (search entries depth 8, (λ h. refl, λ h. refl))))
