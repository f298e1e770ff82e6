-- Document 01's BadRecord (11): "policy, budget and runtime disagree, or the budget is bad". Weight and quantum are not
-- judged.
use Rattle.std.specs.Prelude.{Bool, true, false, Option}
use Rattle.refusal.specs.Cases.{choose}
use Rattle.policy.specs.PolicyCases.{on_policy, on_budget}
use Rattle.policy.specs.Budget.{sound_budget}
use Rattle.algorithms.specs.Runtime.{same_kind}
use Rattle.thread.specs.declared.ThreadRecord.{ThreadRecord}
use Rattle.policy.specs.declared.BudgetParameters.{BudgetParameters}

unfoldable pub has_budget : Option BudgetParameters → Bool
has_budget b = on_budget b false (λ q. true)

-- No budget, or one that `BudgetParameters::new` would not take.
unfoldable pub is_bad_budget : Option BudgetParameters → Bool
is_bad_budget b = on_budget b true (λ q. choose (sound_budget q) false true)

-- "A record has a budget exactly when its policy is Budget, and a runtime of its policy's kind." (SPECIFICATION 5.2)
unfoldable pub is_bad_record : ThreadRecord → Bool
is_bad_record r =
    choose (same_kind r.runtime r.parameters.policy)
    (on_policy r.parameters.policy
    (λ priority. has_budget r.parameters.budget)
    (has_budget r.parameters.budget)
    (is_bad_budget r.parameters.budget)
    (has_budget r.parameters.budget))
    true
