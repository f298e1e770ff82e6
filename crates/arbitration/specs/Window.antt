-- What a CPU window does with time: refresh, charge, deadlines. After arbitration.rs.
use Rattle.std.specs.Prelude.{ℕ, ◌-◌, ◌/◌, max, Bool, true, false, eqb, Option, Some, None}
use Rattle.refusal.specs.Answer.{Answer, value, refused, bad_config}
use Rattle.refusal.specs.Cases.{choose, given, if_equal}
use Rattle.time.specs.Time.{rises, charge_of, checked_add, period_end, earliest_of, on_deadline}
use Rattle.policy.specs.PolicyCases.{on_role}
use Rattle.policy.specs.declared.SchedulingRole.{SchedulingRole}
use Rattle.policy.specs.declared.SchedulingParameters.{SchedulingParameters}
use Rattle.window_config.specs.declared.ArbitrationConfig.{ArbitrationConfig}
use Rattle.arbitration.specs.declared.CpuWindow.{CpuWindow}
use Rattle.arbitration.specs.declared.Demand.{Demand}
use Rattle.arbitration.specs.declared.DispatchMode.{DispatchMode}
use Rattle.arbitration.specs.declared.DispatchMode.TheVariants as mode
use Rattle.window_config.specs.Config.{sound_config}

-- A new window: no epoch, allowance and floor whole; or BadConfig (SPECIFICATION 3.1).
unfoldable pub new_window : ArbitrationConfig → Answer CpuWindow
new_window c =
    choose (sound_config c)
    (value (record {
      config = c;
      epoch = None;
      priority_remaining_ns = c.priority_allowance_ns;
      protected_remaining_ns = c.protected_floor_ns;
    }))
    (refused bad_config)

-- Allowance and floor are whole again when the epoch rises; otherwise nothing changes (SPECIFICATION 3.2).
unfoldable pub refreshed : CpuWindow → ℕ → CpuWindow
refreshed w now =
    given (now / w.config.period_ns)
    (λ now_epoch. choose (rises w.epoch now_epoch)
    (record {
      config = w.config;
      epoch = Some now_epoch;
      priority_remaining_ns = w.config.priority_allowance_ns;
      protected_remaining_ns = w.config.protected_floor_ns;
    })
    w)

unfoldable pub is_priority : SchedulingRole → Bool
is_priority r = on_role r false true false

unfoldable pub is_protected : SchedulingRole → Bool
is_protected r = on_role r false false true

-- StrictFifo, Priority, Protected, Ordinary, Borrow.
unfoldable pub on_mode : {A : Type 0} → DispatchMode → A → A → A → A → A → A
on_mode mode.StrictFifo strict priority protected ordinary borrow = strict
on_mode mode.Priority strict priority protected ordinary borrow = priority
on_mode mode.Protected strict priority protected ordinary borrow = protected
on_mode mode.Ordinary strict priority protected ordinary borrow = ordinary
on_mode mode.Borrow strict priority protected ordinary borrow = borrow

-- Execution on the priority allowance: by its mode, or by the thread's role.
unfoldable pub uses_allowance : DispatchMode → SchedulingRole → Bool
uses_allowance m r = on_mode m (is_priority r) true (is_priority r) (is_priority r) (is_priority r)

-- Only the part of the interval in the period that holds its end is charged: to the allowance, and for a protected
-- thread to the floor (SPECIFICATION 3.3).
unfoldable pub charged : CpuWindow → ℕ → ℕ → SchedulingParameters → DispatchMode → CpuWindow
charged w start end p m =
    record {
      config = (refreshed w end).config;
      epoch = (refreshed w end).epoch;
      priority_remaining_ns =
          (refreshed w end).priority_remaining_ns - choose (uses_allowance m p.role)
          (charge_of start end (refreshed w end).config.period_ns) 0;
      protected_remaining_ns =
          (refreshed w end).protected_remaining_ns - choose (is_protected p.role)
          (charge_of start end (refreshed w end).config.period_ns) 0;
    }

-- Of a refreshed window: the latest start that still gives waiting protected threads their floor, or now where that is
-- past (SPECIFICATION 3.4).
unfoldable pub protection_deadline : CpuWindow → ℕ → Bool → Option ℕ
protection_deadline w now waiting =
    choose waiting
    (if_equal w.protected_remaining_ns 0 None
    (on_deadline (period_end now w.config.period_ns) None
    (λ end. given (end - w.protected_remaining_ns) (λ latest. given (max latest now) Some))))
    None

-- Due: the protection deadline is now (SPECIFICATION 3.4).
unfoldable pub due_at : CpuWindow → ℕ → Bool → Bool
due_at w now waiting = on_deadline (protection_deadline w now waiting) false (λ t. eqb t now)

-- The period's end bears on demand whose eligibility a new window can change.
unfoldable pub at_renewal : Demand → Option ℕ → Option ℕ
at_renewal d end = choose d.any_budget end (choose d.window_sensitive end None)

-- Of a refreshed window with competition: the earliest of the period's end, what the mode has left, and the protection
-- deadline (SPECIFICATION 10.6).
unfoldable pub next_deadline : CpuWindow → ℕ → DispatchMode → Demand → Option ℕ
next_deadline w now m d =
    given (period_end now w.config.period_ns)
    (λ end. given (at_renewal d end)
    (λ period. given (protection_deadline w now d.protected)
    (λ protection. on_mode m
    None
    (given (checked_add now w.priority_remaining_ns)
    (λ spent. given (earliest_of period spent) (λ first. earliest_of first protection)))
    (given (checked_add now w.protected_remaining_ns) (λ spent. earliest_of period spent))
    (earliest_of period protection)
    (earliest_of period protection))))
