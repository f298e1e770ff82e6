-- The judgement and the epochs are those of the window that the words stand for; only a later epoch stores.
use Rattle.window_entries.specs.StepLaws.{steps}
use mathlib.Core.Path.{refl}
use borrow.Author.Rules.{rules}
use Rattle.window_entries.proofs.window_refresh.Statement.{statement}
use Rattle.window_entries.proofs.window_refresh.Tie as tie

pub window_refresh_spec : {M : Type 1} → statement M
window_refresh_spec =
    tie.close
    (tie.spec
    (λ c κs. search rules)
    (λ c. (search steps depth 8, λ h. refl))
    (λ c. search rules)
    (λ c κs. search rules)
    (λ c κs. search rules)
    (λ c. (search steps depth 8, λ h. absurd (h refl)))
    (λ c. search rules)
    (λ c. search rules)
    (λ c κs. search rules)
    (λ c. (search steps depth 8, λ h. absurd (h refl))))
