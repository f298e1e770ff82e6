-- Budgets and windows: a refresh gives no more than the budget, and a charge never raises what remains.
use Rattle.std.specs.Prelude.{ℕ, ◌/◌, ◌≤◌, min, ◌≡◌, Bool, Some}
use Rattle.std.proofs.Common.{arith}
use Rattle.std.proofs.Math.Path.{refl}
use Rattle.std.proofs.Math.Bool.{true, false}
use Rattle.refusal.specs.Cases.{choose, given}
use Rattle.time.specs.Time.{rises}
use Rattle.policy.specs.declared.BudgetParameters.{BudgetParameters}
use Rattle.policy.specs.declared.SchedulingParameters.{SchedulingParameters}
use Rattle.budget.specs.declared.BudgetRuntime.{BudgetRuntime}
use Rattle.budget.specs.Runtime as budget
use Rattle.arbitration.specs.declared.CpuWindow.{CpuWindow}
use Rattle.arbitration.specs.declared.DispatchMode.{DispatchMode}
use Rattle.arbitration.specs.Window as window

module _ (r : BudgetRuntime) (now : ℕ) (p : BudgetParameters) where
  -- By whether the epoch rises.
  abbrev renewed : Bool → BudgetRuntime
  renewed true =
      record {
        epoch = Some (now / p.period_ns);
        remaining_ns = p.budget_ns;
        burst_remaining_ns = r.burst_remaining_ns;
      }
  renewed false =
      record {
        epoch = r.epoch;
        remaining_ns = min r.remaining_ns p.budget_ns;
        burst_remaining_ns = r.burst_remaining_ns;
      }

  refreshed_is : budget.refreshed r now p ≡ renewed (rises r.epoch (now / p.period_ns))
  unfolding budget.refreshed given choose
  refreshed_is = go (rises r.epoch (now / p.period_ns))
    where
      go : (b : Bool) → choose b (renewed true) (renewed false) ≡ renewed b
      go true = refl
      go false = refl

  -- A refreshed budget has no more than its budget.
  pub refreshed_within : (budget.refreshed r now p).remaining_ns ≤ p.budget_ns
  refreshed_within = rw refreshed_is (go (rises r.epoch (now / p.period_ns)))
    where
      go : (b : Bool) → (renewed b).remaining_ns ≤ p.budget_ns
      go true = omega arith
      go false = omega arith

  -- A refresh leaves the burst as it was.
  pub refreshed_burst : (budget.refreshed r now p).burst_remaining_ns ≡ r.burst_remaining_ns
  refreshed_burst = rw refreshed_is (go (rises r.epoch (now / p.period_ns)))
    where
      go : (b : Bool) → (renewed b).burst_remaining_ns ≡ r.burst_remaining_ns
      go true = refl
      go false = refl

-- A charge leaves no more of a budget than its refresh gave, and so no more than the budget; and no more of the burst
-- than there was.
pub record Charged (r s : BudgetRuntime) (end : ℕ) (p : BudgetParameters) : Type 0 where
  pub remaining : s.remaining_ns ≤ (budget.refreshed r end p).remaining_ns
  pub within : s.remaining_ns ≤ p.budget_ns
  pub burst : s.burst_remaining_ns ≤ r.burst_remaining_ns

pub charged_less : (r : BudgetRuntime) (start end : ℕ) (p : BudgetParameters)
    → Charged r (budget.charged r start end p) end p
unfolding budget.charged
charged_less r start end p =
    let limit : (budget.refreshed r end p).remaining_ns ≤ p.budget_ns = refreshed_within r end p in
    let same : (budget.refreshed r end p).burst_remaining_ns ≡ r.burst_remaining_ns = refreshed_burst r end p in
    record { remaining = omega arith; within = omega arith; burst = omega arith }

-- A charge leaves no more of a window's allowance and floor than its refresh gave.
pub record WindowCharged (w v : CpuWindow) (end : ℕ) : Type 0 where
  pub allowance : v.priority_remaining_ns ≤ (window.refreshed w end).priority_remaining_ns
  pub floor : v.protected_remaining_ns ≤ (window.refreshed w end).protected_remaining_ns

pub window_charged_less : (w : CpuWindow) (start end : ℕ) (p : SchedulingParameters) (m : DispatchMode)
    → WindowCharged w (window.charged w start end p m) end
unfolding window.charged
window_charged_less w start end p m = record { allowance = omega arith; floor = omega arith }
