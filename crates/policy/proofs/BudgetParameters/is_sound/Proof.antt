use Rattle.refusal.specs.Cases.{cases}
use Rattle.policy.specs.Budget.{sound_budget}
use Rattle.policy.proofs.BudgetParameters.is_sound.Statement.{statement}
use Rattle.policy.proofs.BudgetParameters.is_sound.Tie as tie

pub is_sound_spec : {M : Type 1} → statement M
unfolding sound_budget
is_sound_spec =
    tie.close
    (tie.spec
    (λ c. search cases depth 8)
    (λ c. search cases depth 8)
    (λ c. search cases depth 8)
    (λ c. search cases depth 8)
    (λ c. search cases depth 8)
    (λ c. search cases depth 8)
    (λ c. search cases depth 8))
