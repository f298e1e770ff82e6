-- The current thread's own deadline. After `refresh_deadline` of scheduler/state/runtime.rs.
use Rattle.std.specs.Prelude.{ℕ, min, Bool, true, false, Option, Some, None}
use Rattle.refusal.specs.Answer.{Answer, value}
use Rattle.refusal.specs.Cases.{choose, given}
use Rattle.time.specs.Time.{max_time, checked_add, period_end, on_deadline}
use Rattle.policy.specs.declared.BudgetParameters.{BudgetParameters}
use Rattle.policy.specs.declared.SchedulingParameters.{SchedulingParameters}
use Rattle.policy.specs.declared.SchedulingPolicy.{SchedulingPolicy}
use Rattle.policy.specs.PolicyCases.{on_policy, on_budget}
use Rattle.budget.specs.declared.BudgetRuntime.{BudgetRuntime}
use Rattle.algorithms.specs.declared.PolicyRuntime.{PolicyRuntime}
use Rattle.algorithms.specs.declared.PolicyRuntime.TheVariants as runtime
use Rattle.algorithms.specs.Runtime.{on_runtime, next_deadline}
use Rattle.arbitration.specs.declared.DispatchMode.{DispatchMode}
use Rattle.arbitration.specs.Window.{on_mode}
use Rattle.decisions.specs.declared.Contention.{Contention}

-- No key first.
unfoldable pub on_key_mode : {A : Type 0} → Option DispatchMode → A → (DispatchMode → A) → A
on_key_mode None a f = a
on_key_mode (Some m) a f = f m

unfoldable pub borrows : DispatchMode → Bool
borrows m = on_mode m false false false false true

-- The period's end, or the greatest time where it does not fit (`saturating_add`).
unfoldable pub saturated_end : ℕ → ℕ → ℕ
saturated_end now period = on_deadline (period_end now period) max_time (λ end. end)

-- A Budget thread with no budget peer runs until its time is spent or its period ends; none where the former does not
-- fit.
unfoldable pub budget_expiry : ℕ → ℕ → BudgetParameters → Option ℕ
budget_expiry now remaining b =
    on_deadline (checked_add now remaining) None
    (λ expiry. given (saturated_end now b.period_ns) (λ end. given (min expiry end) Some))

-- Exhausted budget peers cannot use a fair quantum: a Fair thread's slice matters only where a thread is ready.
unfoldable pub turn_competition : Contention → SchedulingPolicy → Bool
turn_competition x p = choose x.competition (on_policy p (λ priority. true) x.ready true true) false

-- The algorithm's own deadline, with the runtime as it is left.
unfoldable pub turn_deadline : ℕ → PolicyRuntime → SchedulingParameters → DispatchMode → Contention
    → Answer (PolicyRuntime × Option ℕ)
turn_deadline now r p m x =
    given (turn_competition x p.policy)
    (λ competition. given (borrows m) (λ borrow. next_deadline r now p competition borrow))

-- Whether only threads without a budget compete.
unfoldable pub without_peer : Contention → Bool
without_peer x = choose x.competition (choose x.budget_peer false true) false

-- A Budget thread's: without a budget peer by its time alone, since an interrupt at its burst could change nothing.
unfoldable pub budget_deadline : ℕ → BudgetRuntime → SchedulingParameters → DispatchMode → Contention
    → Answer (PolicyRuntime × Option ℕ)
budget_deadline now b p m x =
    on_budget p.budget
    (turn_deadline now (runtime.Budget b) p m x)
    (λ q. choose (without_peer x)
    (given (budget_expiry now b.remaining_ns q) (λ due. value (runtime.Budget b, due)))
    (turn_deadline now (runtime.Budget b) p m x))

-- SPECIFICATION 10.6.
unfoldable pub own_deadline : ℕ → PolicyRuntime → SchedulingParameters → DispatchMode → Contention
    → Answer (PolicyRuntime × Option ℕ)
own_deadline now r p m x =
    on_runtime r (turn_deadline now r p m x) (λ fair. turn_deadline now r p m x) (λ b. budget_deadline now b p m x)
    (turn_deadline now r p m x)
