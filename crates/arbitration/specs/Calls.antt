-- The window's calls: what each answers, and the window that it hands back. A window that `ArbitrationConfig::new`
-- would refuse is BadConfig, and comes back as it was.
use Rattle.std.specs.Prelude.{ℕ, Bool, Option, None}
use Rattle.refusal.specs.Answer.{Answer, value, refused, bad_config, back_in_time}
use Rattle.refusal.specs.Cases.{choose, given, if_less}
use Rattle.time.specs.Time.{period_end}
use Rattle.policy.specs.declared.SchedulingParameters.{SchedulingParameters}
use Rattle.arbitration.specs.declared.CpuWindow.{CpuWindow}
use Rattle.arbitration.specs.declared.Demand.{Demand}
use Rattle.arbitration.specs.declared.Candidate.{Candidate}
use Rattle.arbitration.specs.declared.DispatchMode.{DispatchMode}
use Rattle.window_config.specs.Config.{sound_config}
use Rattle.arbitration.specs.Window.{refreshed, charged, protection_deadline, next_deadline}
use Rattle.arbitration.specs.Key.{key_of}
use Rattle.dispatch_keys.specs.declared.DispatchKey.{DispatchKey}

-- An answer, with the window as it is left.
pub data With (A : Type 0) : Type 0 where
  with : Answer A → CpuWindow → With A

unfoldable pub judged : {A : Type 0} → CpuWindow → With A → With A
judged w step = choose (sound_config w.config) step (with (refused bad_config) w)

unfoldable pub refresh_call : CpuWindow → ℕ → With (Unit {0})
unfolding judged
refresh_call w now = judged w (given (refreshed w now) (with (value tt)))

-- BackInTime where the end lies before the start.
unfoldable pub account_call : CpuWindow → ℕ → ℕ → SchedulingParameters → DispatchMode → With (Unit {0})
unfolding judged
account_call w start end p m =
    judged w (if_less end start (with (refused back_in_time) w) (given (charged w start end p m) (with (value tt))))

unfoldable pub period_deadline_call : CpuWindow → ℕ → With (Option ℕ)
unfolding judged
period_deadline_call w now = judged w (given (period_end now w.config.period_ns) (λ end. with (value end) w))

unfoldable pub protection_call : CpuWindow → ℕ → Bool → With (Option ℕ)
unfolding judged
protection_call w now waiting =
    judged w (given (refreshed w now)
    (λ fresh. given (protection_deadline fresh now waiting) (λ due. with (value due) fresh)))

unfoldable pub key_call : CpuWindow → ℕ → Candidate → Demand → With (Option (DispatchKey × DispatchMode))
unfolding judged
key_call w now c d =
    judged w (given (refreshed w now) (λ fresh. given (key_of fresh now c d) (λ k. with (value k) fresh)))

unfoldable pub next_deadline_call : CpuWindow → ℕ → DispatchMode → Bool → Demand → With (Option ℕ)
unfolding judged
next_deadline_call w now m competition d =
    judged w (given (refreshed w now)
    (λ fresh. choose competition (given (next_deadline fresh now m d) (λ due. with (value due) fresh))
    (with (value None) fresh)))
