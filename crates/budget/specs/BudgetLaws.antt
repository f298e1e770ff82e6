-- Laws by which the functions meet the definitions: each part as it was computed is the runtime's.
use Rattle.std.specs.Prelude.{ℕ, ◌-◌, min, ◌≡◌}
use Rattle.time.specs.Time.{charge_of}
use Rattle.policy.specs.declared.BudgetParameters.{BudgetParameters}
use Rattle.budget.specs.declared.BudgetRuntime.{BudgetRuntime}
use Rattle.budget.specs.Runtime.{refreshed, charged, reconfigured}

pub charged_parts : (r : BudgetRuntime) (start end : ℕ) (p : BudgetParameters) {fresh : BudgetRuntime}
    {charge elapsed remaining burst : ℕ}
    → fresh ≡ refreshed r end p → charge ≡ charge_of start end p.period_ns → elapsed ≡ end - start
    → remaining ≡ fresh.remaining_ns - charge → burst ≡ fresh.burst_remaining_ns - elapsed
    → record { epoch = fresh.epoch; remaining_ns = remaining; burst_remaining_ns = burst } ≡ charged r start end p
unfolding charged
charged_parts r start end p e f g h i = rw (h, i, f, g, e)

pub reconfigured_parts : (r : BudgetRuntime) (old new : BudgetParameters)
    {consumed burst_consumed left burst_left remaining burst : ℕ}
    → consumed ≡ old.budget_ns - r.remaining_ns → burst_consumed ≡ old.burst_ns - r.burst_remaining_ns
    → left ≡ new.budget_ns - consumed → burst_left ≡ new.burst_ns - burst_consumed
    → remaining ≡ min r.remaining_ns left → burst ≡ min r.burst_remaining_ns burst_left
    → record { epoch = r.epoch; remaining_ns = remaining; burst_remaining_ns = burst } ≡ reconfigured r old new
unfolding reconfigured
reconfigured_parts r old new e f g h i j = rw (i, j, g, h, e, f)
