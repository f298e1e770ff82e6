-- The judgement and the readings decide, and the charged words stand for the charged window.
use Rattle.window_entries.specs.StepLaws.{steps}
use mathlib.Core.Path.{refl}
use borrow.Author.Rules.{rules}
use Rattle.window_entries.proofs.window_account_dispatch.Statement.{statement}
use Rattle.window_entries.proofs.window_account_dispatch.Tie as tie

pub window_account_dispatch_spec : {M : Type 1} → statement M
window_account_dispatch_spec =
    tie.close
    (tie.spec
    (λ c κs. search rules)
    (λ c. (search steps depth 8, λ h. refl))
    (λ c. (search steps depth 8, λ h. refl))
    (λ c κs. search rules)
    (λ c. (search steps depth 8, λ h. absurd (h refl))))
