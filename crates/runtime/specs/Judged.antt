-- A judged record is refreshed, accounted and its turn ended without a refusal of its own: what is left to refuse are
-- Already, TurnsSpent and BackInTime.
use Rattle.std.specs.Prelude.{ℕ, ◌≤◌, ◌≡◌, refl, Bool, true, false, ltb, eqb, Option, Some, None}
use Rattle.std.proofs.Common.{sym, ap, ◌∙◌}
use Rattle.refusal.specs.Answer.{Answer, value, refused, back_in_time, bad_record}
use Rattle.refusal.specs.Cases.{never, choose, if_less, given}
use Rattle.policy.specs.declared.BudgetParameters.{BudgetParameters}
use Rattle.policy.specs.declared.SchedulingParameters.{SchedulingParameters}
use Rattle.policy.specs.declared.SchedulingPolicy.{SchedulingPolicy}
use Rattle.policy.specs.declared.SchedulingPolicy.TheVariants as policy
use Rattle.policy.specs.Budget.{sound_budget}
use Rattle.policy.specs.PolicyCases.{on_policy, on_budget}
use Rattle.budget.specs.declared.BudgetRuntime.{BudgetRuntime}
use Rattle.budget.specs.Runtime as budget
use Rattle.algorithms.specs.declared.FairRuntime.{FairRuntime}
use Rattle.algorithms.specs.declared.PolicyRuntime.{PolicyRuntime}
use Rattle.algorithms.specs.declared.PolicyRuntime.TheVariants as runtime
use Rattle.algorithms.specs.Runtime.{on_runtime, of_budget, same_kind, unless_back, accounted, epoch_refreshed}
use Rattle.algorithms.specs.Runtime.{turn_finished}
use Rattle.thread.specs.declared.ThreadRecord.{ThreadRecord}
use Rattle.thread.specs.Judgement.{has_budget, is_bad_budget, is_bad_record}

-- What a good record is: a budget exactly where the policy is Budget, and a runtime of the policy's kind.
pub data Good : SchedulingPolicy → Option BudgetParameters → PolicyRuntime → Type 0 where
  fifo : (p : _) → Good (policy.Fifo p) None runtime.Fifo
  fair : (f : FairRuntime) → Good policy.Fair None (runtime.Fair f)
  budgeted : (q : BudgetParameters) (b : BudgetRuntime) → sound_budget q ≡ true
      → Good policy.Budget (Some q) (runtime.Budget b)
  idle : Good policy.Idle None runtime.Idle

-- A good record's runtime refreshed to now.
abbrev pub fresh_of : PolicyRuntime → Option BudgetParameters → ℕ → PolicyRuntime
fresh_of (runtime.Budget b) (Some q) now = runtime.Budget (budget.refreshed b now q)
fresh_of (runtime.Budget b) None now = runtime.Budget b
fresh_of runtime.Fifo q now = runtime.Fifo
fresh_of (runtime.Fair f) q now = runtime.Fair f
fresh_of runtime.Idle q now = runtime.Idle

-- A good record's runtime charged for an interval.
abbrev pub charged_of : PolicyRuntime → Option BudgetParameters → ℕ → ℕ → PolicyRuntime
charged_of (runtime.Budget b) (Some q) start end = runtime.Budget (budget.charged b start end q)
charged_of (runtime.Budget b) None start end = runtime.Budget b
charged_of runtime.Fifo q start end = runtime.Fifo
charged_of (runtime.Fair f) q start end = runtime.Fair f
charged_of runtime.Idle q start end = runtime.Idle

-- A good record's runtime at the end of a turn.
abbrev pub finished_of : PolicyRuntime → Option BudgetParameters → PolicyRuntime
finished_of (runtime.Budget b) (Some q) =
    runtime.Budget (record {
      epoch = b.epoch;
      remaining_ns = b.remaining_ns;
      burst_remaining_ns = q.burst_ns;
    })
finished_of (runtime.Budget b) None = runtime.Budget b
finished_of runtime.Fifo q = runtime.Fifo
finished_of (runtime.Fair f) q = runtime.Fair f
finished_of runtime.Idle q = runtime.Idle

pub good : (p : SchedulingPolicy) (q : Option BudgetParameters) (r : PolicyRuntime)
    → choose (same_kind r p) (on_policy p (λ priority. has_budget q) (has_budget q) (is_bad_budget q)
    (has_budget q)) true
    ≡ false → Good p q r
unfolding choose same_kind on_policy has_budget is_bad_budget on_budget
good (policy.Fifo p) None runtime.Fifo e = fifo p
good policy.Fair None (runtime.Fair f) e = fair f
good policy.Budget (Some q) (runtime.Budget b) e = sound (sound_budget q) refl e
  where
    sound : (x : Bool) → sound_budget q ≡ x → choose x false true ≡ false
        → Good policy.Budget (Some q) (runtime.Budget b)
    sound true s e = budgeted q b s
    sound false s e = never cc
good policy.Idle None runtime.Idle e = idle
good (policy.Fifo p) (Some q) runtime.Fifo e = never cc
good (policy.Fifo p) q (runtime.Fair f) e = never cc
good (policy.Fifo p) q (runtime.Budget b) e = never cc
good (policy.Fifo p) q runtime.Idle e = never cc
good policy.Fair (Some q) (runtime.Fair f) e = never cc
good policy.Fair q runtime.Fifo e = never cc
good policy.Fair q (runtime.Budget b) e = never cc
good policy.Fair q runtime.Idle e = never cc
good policy.Budget None (runtime.Budget b) e = never cc
good policy.Budget q runtime.Fifo e = never cc
good policy.Budget q (runtime.Fair f) e = never cc
good policy.Budget q runtime.Idle e = never cc
good policy.Idle (Some q) runtime.Idle e = never cc
good policy.Idle q runtime.Fifo e = never cc
good policy.Idle q (runtime.Fair f) e = never cc
good policy.Idle q (runtime.Budget b) e = never cc

pub good_record : (r : ThreadRecord) → is_bad_record r ≡ false
    → Good r.parameters.policy r.parameters.budget r.runtime
unfolding is_bad_record
good_record r e = good r.parameters.policy r.parameters.budget r.runtime e

refreshes_by : (p : SchedulingPolicy) (q : Option BudgetParameters) (r : PolicyRuntime) (now : ℕ) → Good p q r
    → on_runtime r (value r) (λ fair. value r)
    (λ b. on_budget q (value (runtime.Budget b)) (λ q. of_budget (budget.refreshed_judged b now q))) (value r)
    ≡ value (fresh_of r q now)
unfolding on_runtime on_budget of_budget budget.refreshed_judged budget.judged choose given
refreshes_by p q r now (fifo x) = refl
refreshes_by p q r now (fair f) = refl
refreshes_by p q r now (budgeted s b h) = rw h
refreshes_by p q r now idle = refl

pub refreshes : (r : ThreadRecord) (now : ℕ) → is_bad_record r ≡ false
    → epoch_refreshed r.runtime now r.parameters ≡ value (fresh_of r.runtime r.parameters.budget now)
unfolding epoch_refreshed
refreshes r now e = refreshes_by r.parameters.policy r.parameters.budget r.runtime now (good_record r e)

accounts_by : (p : SchedulingPolicy) (q : Option BudgetParameters) (r : PolicyRuntime) (start end : ℕ) → Good p q r
    → choose (same_kind r p)
    (on_runtime r (unless_back r start end) (λ fair. unless_back r start end)
    (λ b. on_budget q (refused bad_record) (λ q. of_budget (budget.accounted_interval b start end q)))
    (unless_back r start end))
    (refused bad_record)
    ≡ if_less end start (refused back_in_time) (value (charged_of r q start end))
unfolding choose same_kind on_runtime on_budget of_budget unless_back budget.accounted_interval budget.judged if_less
    given
accounts_by p q r start end (fifo x) = refl
accounts_by p q r start end (fair f) = refl
accounts_by p q r start end (budgeted s b h) = rw h (go (ltb end start))
  where
    go : (x : Bool) → of_budget (choose x (refused back_in_time) (value (budget.charged b start end s)))
        ≡ choose x (refused back_in_time) (value (runtime.Budget (budget.charged b start end s)))
    go true = refl
    go false = refl
accounts_by p q r start end idle = refl

pub accounts : (r : ThreadRecord) (start end : ℕ) → is_bad_record r ≡ false
    → accounted r.runtime r.parameters start end
    ≡ if_less end start (refused back_in_time) (value (charged_of r.runtime r.parameters.budget start end))
unfolding accounted
accounts r start end e =
    accounts_by r.parameters.policy r.parameters.budget r.runtime start end (good_record r e)

finishes_by : (p : SchedulingPolicy) (q : Option BudgetParameters) (r : PolicyRuntime) → Good p q r
    → on_runtime r (value r) (λ fair. value r)
    (λ b. on_budget q (value (runtime.Budget b)) (λ q. of_budget (budget.turn_finished b q))) (value r)
    ≡ value (finished_of r q)
unfolding on_runtime on_budget of_budget budget.turn_finished budget.judged choose
finishes_by p q r (fifo x) = refl
finishes_by p q r (fair f) = refl
finishes_by p q r (budgeted s b h) = rw h
finishes_by p q r idle = refl

pub finishes : (r : ThreadRecord) → is_bad_record r ≡ false
    → turn_finished r.runtime r.parameters ≡ value (finished_of r.runtime r.parameters.budget)
unfolding turn_finished
finishes r e = finishes_by r.parameters.policy r.parameters.budget r.runtime (good_record r e)
