-- The configuration that is made is stored, a refusal's number is told.
use Rattle.window_entries.specs.EntryLaws.{entries}
use mathlib.Core.Path.{refl}
use borrow.Author.Rules.{rules}
use Rattle.window_entries.proofs.config_new.Statement.{statement}
use Rattle.window_entries.proofs.config_new.Tie as tie

pub config_new_spec : {M : Type 1} → statement M
config_new_spec =
    tie.close
    (tie.spec
    (λ c κs. search rules)
    (λ c κs. search rules)
    (λ c. search rules)
    (λ c κs. search rules)
    (λ c. search rules)
    (λ c κs. search rules)
    (λ c. (search entries depth 8, λ h. absurd (h refl)))
    (λ c. (search entries depth 8, λ h. refl)))
