-- Laws for going by a mode and by a candidate's algorithm, of a refresh, and of what is charged.
use Rattle.std.specs.Prelude.{ℕ, ◌-◌, ◌/◌, ◌≡◌, refl, Bool, true, false, Option, Some, None}
use Rattle.std.proofs.Common.{sym, ◌∙◌}
use Rattle.refusal.specs.Cases.{choose, given}
use Rattle.time.specs.Time.{rises, charge_of}
use Rattle.policy.specs.declared.SchedulingParameters.{SchedulingParameters}
use Rattle.arbitration.specs.declared.CpuWindow.{CpuWindow}
use Rattle.arbitration.specs.declared.DispatchMode.{DispatchMode}
use Rattle.arbitration.specs.declared.DispatchMode.TheVariants as mode
use Rattle.arbitration.specs.declared.Algorithm.{Algorithm}
use Rattle.arbitration.specs.Window.{on_mode, refreshed, uses_allowance, is_protected, charged}
use Rattle.arbitration.specs.Key.{on_algorithm}

module _ {A : Type 0} {y : A} {x : DispatchMode} (a b c d e : A) where
  pub by_strict : x ≡ mode.StrictFifo → y ≡ a → y ≡ on_mode x a b c d e
  unfolding on_mode
  by_strict m h = rw m h

  pub by_priority : x ≡ mode.Priority → y ≡ b → y ≡ on_mode x a b c d e
  unfolding on_mode
  by_priority m h = rw m h

  pub by_protected : x ≡ mode.Protected → y ≡ c → y ≡ on_mode x a b c d e
  unfolding on_mode
  by_protected m h = rw m h

  pub by_ordinary : x ≡ mode.Ordinary → y ≡ d → y ≡ on_mode x a b c d e
  unfolding on_mode
  by_ordinary m h = rw m h

  pub by_borrow : x ≡ mode.Borrow → y ≡ e → y ≡ on_mode x a b c d e
  unfolding on_mode
  by_borrow m h = rw m h

-- A refresh leaves the configuration.
pub refreshed_config : (w : CpuWindow) (now : ℕ) → (refreshed w now).config ≡ w.config
unfolding refreshed given choose
refreshed_config w now = go (rises w.epoch (now / w.config.period_ns))
  where
    go : (x : Bool)
        → (choose x
        (record {
          config = w.config;
          epoch = Some (now / w.config.period_ns);
          priority_remaining_ns = w.config.priority_allowance_ns;
          protected_remaining_ns = w.config.protected_floor_ns;
        })
        w).config
        ≡ w.config
    go true = refl
    go false = refl

-- A charged window, by what each part was charged.
pub charged_parts : (w : CpuWindow) (start end : ℕ) (p : SchedulingParameters) (m : DispatchMode) {fresh : CpuWindow}
    {u v : Bool} {charge to_allowance to_floor allowance floor : ℕ}
    → fresh ≡ refreshed w end → charge ≡ charge_of start end fresh.config.period_ns → u ≡ uses_allowance m p.role
    → v ≡ is_protected p.role
    → to_allowance ≡ choose u charge 0 → to_floor ≡ choose v charge 0
    → allowance ≡ fresh.priority_remaining_ns - to_allowance → floor ≡ fresh.protected_remaining_ns - to_floor
    → record {
      config = fresh.config;
      epoch = fresh.epoch;
      priority_remaining_ns = allowance;
      protected_remaining_ns = floor;
    } ≡ charged w start end p m
unfolding charged
charged_parts w start end p m e f g h i j k l = rw (k, l, i, j, f, g, h, e)

module _ {A : Type 0} {y : A} {r x : Option Algorithm} (a : A) (f : Algorithm → A) where
  pub no_algorithm : r ≡ x → r ≡ None → y ≡ a → y ≡ on_algorithm x a f
  unfolding on_algorithm
  no_algorithm e m h = rw (sym e ∙ m) h

  pub some_algorithm : {v : Algorithm} → r ≡ x → r ≡ Some v → y ≡ f v → y ≡ on_algorithm x a f
  unfolding on_algorithm
  some_algorithm e m h = rw (sym e ∙ m) h

pub ruleset modes = (by_strict, by_priority, by_protected, by_ordinary, by_borrow, no_algorithm, some_algorithm)
