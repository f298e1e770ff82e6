-- An answer's value is stored, a refusal's number is told.
use Rattle.record_entries.specs.EntryLaws.{entries}
use mathlib.Core.Path.{refl}
use borrow.Author.Rules.{rules}
use Rattle.record_entries.proofs.store_runtime.Statement.{statement}
use Rattle.record_entries.proofs.store_runtime.Tie as tie

pub store_runtime_spec : {M : Type 1} → statement M
store_runtime_spec =
    tie.close
    (tie.spec
    (λ c. search rules)
    (λ c κs. search rules)
    (λ c. search rules)
    (λ c κs. search rules)
    (λ c. (search entries depth 8, λ h. absurd (h refl)))
    (λ c. (search entries depth 8, λ h. refl)))
