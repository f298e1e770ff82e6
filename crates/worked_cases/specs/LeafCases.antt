-- The ● cases of document 01 about budgets and windows.
use Rattle.std.specs.Prelude.{ℕ, true, false, List, [], ◌∷◌, Option, Some, None}
use Rattle.refusal.specs.Answer.{Answer, value, refused}
use Rattle.policy.specs.declared.BudgetParameters.{BudgetParameters}
use Rattle.policy.specs.declared.SchedulingRole.{SchedulingRole}
use Rattle.policy.specs.declared.SchedulingRole.TheVariants as role
use Rattle.policy.specs.Parameters.{of_budget, of_fifo}
use Rattle.budget.specs.declared.BudgetRuntime.{BudgetRuntime}
use Rattle.budget.specs.Runtime as budget
use Rattle.window_config.specs.declared.ArbitrationOrder.{ArbitrationOrder}
use Rattle.window_config.specs.declared.ArbitrationConfig.{ArbitrationConfig}
use Rattle.arbitration.specs.declared.CpuWindow.{CpuWindow}
use Rattle.arbitration.specs.declared.Demand.{Demand}
use Rattle.arbitration.specs.declared.Candidate.{Candidate}
use Rattle.arbitration.specs.declared.DispatchMode.TheVariants as mode
use Rattle.window_config.specs.Config.{new_config}
use Rattle.arbitration.specs.Window.{refreshed, protection_deadline, due_at}
use Rattle.arbitration.specs.Key.{key_of}
use Rattle.arbitration.specs.Calls as call
use Rattle.worked_cases.specs.Rows.{Row, row, bit, numbered}
use Rattle.dispatch_keys.specs.declared.DispatchKey.{DispatchKey}
use Rattle.arbitration.specs.declared.DispatchMode.{DispatchMode}

abbrev remaining : Answer BudgetRuntime → List ℕ
remaining (value r) = 0 ∷ r.remaining_ns ∷ []
remaining (refused n) = n ∷ []

abbrev floor_left : {A : Type 0} → call.With A → List ℕ
floor_left (call.with a w) = numbered a ∷ w.protected_remaining_ns ∷ []

-- 1 and the time, or 0 where there is none.
abbrev timed : Option ℕ → List ℕ
timed None = 0 ∷ []
timed (Some t) = 1 ∷ t ∷ []

abbrev has_key : Option (DispatchKey × DispatchMode) → ℕ
has_key None = 0
has_key (Some (k, m)) = 1

-- ---- The values that the cases speak of.
abbrev share : BudgetParameters
share = record { budget_ns = 2000000; period_ns = 10000000; burst_ns = 2000000 }

abbrev spent : BudgetRuntime
spent = record { epoch = Some 0; remaining_ns = 0; burst_remaining_ns = 2000000 }

abbrev rising : ArbitrationOrder
rising = record { priority_rank = 0; budget_rank = 1; fair_rank = 2; borrow_rank = 3 }

abbrev level : ArbitrationOrder
level = record { priority_rank = 0; budget_rank = 1; fair_rank = 1; borrow_rank = 3 }

abbrev settings : ArbitrationConfig
settings =
    record {
      period_ns = 10000000;
      priority_allowance_ns = 2000000;
      protected_floor_ns = 3000000;
      order = rising;
      prefer_fair = false;
    }

-- A window with its floor untouched.
abbrev fresh : CpuWindow
fresh =
    record {
      config = settings;
      epoch = None;
      priority_remaining_ns = 2000000;
      protected_remaining_ns = 3000000;
    }

abbrev due_now : ℕ → ℕ
due_now now = bit (due_at (refreshed fresh now) now true)

abbrev fifo_demand : Demand
fifo_demand =
    record {
      protected = false;
      fair = true;
      window_sensitive = false;
      eligible_budget = false;
      any_budget = true;
    }

-- An exhausted budget thread of a role.
abbrev exhausted_thread : SchedulingRole → Candidate
exhausted_thread r =
    record {
      parameters = of_budget share (record { 0 = 128 }) r;
      fair_pass = record { high = 0; low = 0 };
      turn = 1;
      budget_available = false;
    }

abbrev keyless : SchedulingRole → ℕ
keyless r = has_key (key_of (refreshed fresh 15000000) 15000000 (exhausted_thread r) fifo_demand)

-- ---- The rows.
abbrev pub budget_rows : List Row
budget_rows =
    -- Budget 2,000,000, period 10,000,000, epoch 0, remaining 0: at 9,999,999 still 0; at 10,000,000 it is 2,000,000.
    row (remaining (budget.refreshed_judged spent 9999999 share)) (0 ∷ 0 ∷ [])
    ∷ row (remaining (budget.refreshed_judged spent 10000000 share)) (0 ∷ 2000000 ∷ [])
    ∷ []

abbrev pub window_rows : List Row
window_rows =
    -- Allowance 6,999,999 accepted, 7,000,000 refused. Allowance 0 accepted. Floor 0 refused. Equal ranks refused.
    row (numbered (new_config 10000000 6999999 3000000 rising) ∷ []) (0 ∷ [])
    ∷ row (numbered (new_config 10000000 7000000 3000000 rising) ∷ []) (5 ∷ [])
    ∷ row (numbered (new_config 10000000 0 3000000 rising) ∷ []) (0 ∷ [])
    ∷ row (numbered (new_config 10000000 2000000 0 rising) ∷ []) (5 ∷ [])
    ∷ row (numbered (new_config 10000000 2000000 3000000 level) ∷ []) (5 ∷ [])
    -- Protected thread waiting, floor untouched: not due at 6,999,999; due at 7,000,000 and at 7,000,001.
    ∷ row (due_now 6999999 ∷ due_now 7000000 ∷ due_now 7000001 ∷ []) (0 ∷ 1 ∷ 1 ∷ [])
    -- A protected thread accounted from 9,000,000 to 11,000,000 leaves a floor of 2,000,000.
    ∷ row (floor_left (call.account_call fresh 9000000 11000000
    (of_fifo (record { 0 = 1 }) (record { 0 = 128 }) role.Protected) mode.Protected)) (0 ∷ 2000000 ∷ [])
    -- At 18,446,744,073,709,551,615 the period's end does not fit: no protection deadline, nothing due.
    ∷ row (timed (protection_deadline (refreshed fresh 18446744073709551615) 18446744073709551615 true)) (0 ∷ [])
    ∷ row (due_now 18446744073709551615 ∷ []) (0 ∷ [])
    -- All queued threads exhausted and the current one FIFO: no key for any of them.
    ∷ row (keyless role.Ordinary ∷ keyless role.Priority ∷ keyless role.Protected ∷ []) (0 ∷ 0 ∷ 0 ∷ [])
    ∷ []
