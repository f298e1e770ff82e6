-- The judgement, then the window as it is refreshed, and the key that is made of it.
use Rattle.window_entries.specs.StepLaws.{key_refused, key_done}
use mathlib.Core.Path.{refl}
use borrow.Author.Rules.{rules}
use Rattle.window_entries.proofs.window_candidate_key.Statement.{statement}
use Rattle.window_entries.proofs.window_candidate_key.Tie as tie

pub window_candidate_key_spec : {M : Type 1} → statement M
window_candidate_key_spec =
    tie.close
    (tie.spec
    (λ c κs. search rules)
    (λ c. (search key_refused depth 8, (λ h. refl, λ h. refl)))
    (λ c κs. search rules)
    (λ c κs. search rules)
    (λ c κs. search rules)
    (λ c κs. search rules)
    (λ c κs. search rules)
    (λ c κs. search rules)
    (λ c κs. search rules)
    (λ c. (search key_done depth 8 fits 20000, (λ h. absurd (h refl), λ h. absurd (h refl)))))
