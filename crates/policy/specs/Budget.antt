-- Budget parameters: which `BudgetParameters::new` takes. After task/policy.rs.
use Rattle.std.specs.Prelude.{ℕ, Bool, true, false, Result}
use Rattle.refusal.specs.Answer.{Answer, value, refused, number_of, bad_budget}
use Rattle.refusal.specs.Cases.{choose, if_less, if_equal}
use Rattle.policy.specs.declared.BudgetParameters.{BudgetParameters}
use Rattle.refusal.specs.declared.Refusal.{Refusal}

-- `BudgetParameters::MAX_PERIOD_NS`.
abbrev pub max_period : ℕ
max_period = 1000000000

-- Bad is a period of 0 or above 1,000,000,000, and a budget or burst of 0 or above the period (SPECIFICATION 2.2).
unfoldable pub sound_budget : BudgetParameters → Bool
sound_budget p =
    if_equal p.period_ns 0 false
    (if_less max_period p.period_ns false
    (if_equal p.budget_ns 0 false
    (if_less p.period_ns p.budget_ns false
    (if_equal p.burst_ns 0 false
    (if_less p.period_ns p.burst_ns false
    true)))))

-- The parameters, or BadBudget (SPECIFICATION 2.2).
unfoldable pub new_budget : ℕ → ℕ → ℕ → Answer BudgetParameters
new_budget budget period burst =
    let p : BudgetParameters = record { budget_ns = budget; period_ns = period; burst_ns = burst } in
    choose (sound_budget p) (value p) (refused bad_budget)
