-- `BudgetRuntime`: lazy fixed-window budgets. After scheduler/algorithms/budget.rs.
use Rattle.std.specs.Prelude.{ℕ, ◌-◌, ◌/◌, min, Bool, Option, Some, None}
use Rattle.refusal.specs.Answer.{Answer, value, refused, bad_budget, back_in_time}
use Rattle.refusal.specs.Cases.{choose, given, if_less, if_equal}
use Rattle.time.specs.Time.{rises, charge_of, checked_add, period_end, on_deadline}
use Rattle.policy.specs.declared.BudgetParameters.{BudgetParameters}
use Rattle.policy.specs.Budget.{sound_budget}
use Rattle.budget.specs.declared.BudgetRuntime.{BudgetRuntime}

-- BadBudget where `BudgetParameters::new` would give None; it comes first.
unfoldable pub judged : {A : Type 0} → BudgetParameters → Answer A → Answer A
judged p answer = choose (sound_budget p) answer (refused bad_budget)

-- A new runtime: no epoch, budget and burst whole (SPECIFICATION 2.3).
unfoldable pub made : BudgetParameters → Answer BudgetRuntime
unfolding judged
made p =
    judged p (value (record {
      epoch = None;
      remaining_ns = p.budget_ns;
      burst_remaining_ns = p.burst_ns;
    }))

-- Refilled only when the epoch rises; otherwise the lesser of what remains and the budget (SPECIFICATION 2.4).
unfoldable pub refreshed : BudgetRuntime → ℕ → BudgetParameters → BudgetRuntime
refreshed r now p =
    given (now / p.period_ns)
    (λ now_epoch. choose (rises r.epoch now_epoch)
    (record {
      epoch = Some now_epoch;
      remaining_ns = p.budget_ns;
      burst_remaining_ns = r.burst_remaining_ns;
    })
    (given (min r.remaining_ns p.budget_ns)
    (λ left. record { epoch = r.epoch; remaining_ns = left; burst_remaining_ns = r.burst_remaining_ns })))

unfoldable pub refreshed_judged : BudgetRuntime → ℕ → BudgetParameters → Answer BudgetRuntime
unfolding judged
refreshed_judged r now p = judged p (given (refreshed r now p) value)

-- The budget is charged only from the start of the period that holds the end, the burst the whole interval.
-- (SPECIFICATION 2.5).
unfoldable pub charged : BudgetRuntime → ℕ → ℕ → BudgetParameters → BudgetRuntime
charged r start end p =
    record {
      epoch = (refreshed r end p).epoch;
      remaining_ns = (refreshed r end p).remaining_ns - charge_of start end p.period_ns;
      burst_remaining_ns = (refreshed r end p).burst_remaining_ns - (end - start);
    }

-- BackInTime where the end lies before the start (SPECIFICATION 2.5).
unfoldable pub accounted_interval : BudgetRuntime → ℕ → ℕ → BudgetParameters → Answer BudgetRuntime
unfolding judged
accounted_interval r start end p = judged p
    (if_less end start (refused back_in_time) (given (charged r start end p) value))

unfoldable pub period_deadline : ℕ → BudgetParameters → Answer (Option ℕ)
unfolding judged
period_deadline now p = judged p (given (period_end now p.period_ns) value)

-- The earlier of the execution's end and the period's; none where either does not fit.
unfoldable pub expiry_within : ℕ → ℕ → BudgetParameters → Option ℕ
expiry_within now execution p =
    on_deadline (checked_add now execution) None
    (λ expiry. on_deadline (period_end now p.period_ns) None
    (λ end. given (min expiry end) Some))

-- The deadline of a runtime that is refreshed to now: an exhausted one waits for the period's end, or borrows its
-- burst.
unfoldable pub deadline_after : BudgetRuntime → ℕ → BudgetParameters → Bool → Option ℕ
deadline_after r now p borrow =
    if_equal r.remaining_ns 0
    (choose borrow (expiry_within now r.burst_remaining_ns p) (period_end now p.period_ns))
    (given (min r.remaining_ns r.burst_remaining_ns) (λ execution. expiry_within now execution p))

unfoldable pub deadline_judged : BudgetRuntime → ℕ → BudgetParameters → Bool → Answer (BudgetRuntime × Option ℕ)
unfolding judged
deadline_judged r now p borrow =
    judged p (given (refreshed r now p) (λ fresh. given (deadline_after fresh now p borrow)
    (λ due. value (fresh, due))))

-- A turn that ends opens the burst again (SPECIFICATION 2.6).
unfoldable pub turn_finished : BudgetRuntime → BudgetParameters → Answer BudgetRuntime
unfolding judged
turn_finished r p =
    judged p (value (record {
      epoch = r.epoch;
      remaining_ns = r.remaining_ns;
      burst_remaining_ns = p.burst_ns;
    }))

-- Ceilings change and what is consumed stays consumed, so that no execution is made.
unfoldable pub reconfigured : BudgetRuntime → BudgetParameters → BudgetParameters → BudgetRuntime
reconfigured r old new =
    record {
      epoch = r.epoch;
      remaining_ns = min r.remaining_ns (new.budget_ns - (old.budget_ns - r.remaining_ns));
      burst_remaining_ns =
          min r.burst_remaining_ns (new.burst_ns - (old.burst_ns - r.burst_remaining_ns));
    }

-- None where the periods differ.
unfoldable pub reconfigured_judged : BudgetRuntime → BudgetParameters → BudgetParameters → Answer (Option BudgetRuntime)
unfolding judged
reconfigured_judged r old new =
    judged old (judged new
    (if_equal old.period_ns new.period_ns (given (reconfigured r old new) (λ changed. value (Some changed)))
    (value None)))
