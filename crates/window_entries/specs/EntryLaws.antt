-- The laws by which the entries meet their contracts. An accepted call keeps its window's configuration and a refused
-- one keeps the whole window, so that storing the epoch and what remains of an accepted one stores all.
use Rattle.std.specs.Prelude.{ℕ, ◌/◌, ◌≡◌, Bool, true, false, List, Option, None, Result, Ok, Err}
use Rattle.std.proofs.Math.Path.{refl, sym}
use Rattle.std.proofs.Common.{◌∙◌, subst}
use Rattle.refusal.specs.declared.Refusal.{Refusal}
use Rattle.refusal.specs.Answer.{Answer, value, refused, number_of, bad_config, by_number}
use Rattle.refusal.specs.Cases.{choose, given}
use Rattle.time.specs.Time.{rises, period_end}
use Rattle.std.specs.declared.cmp.Ordering.{Ordering}
use Rattle.policy.specs.declared.FairBackend.{FairBackend}
use Rattle.policy.specs.declared.SchedulingParameters.{SchedulingParameters}
use Rattle.window_config.specs.declared.ArbitrationConfig.{ArbitrationConfig}
use Rattle.window_config.specs.declared.ArbitrationOrder.{ArbitrationOrder}
use Rattle.arbitration.specs.declared.CpuWindow.{CpuWindow}
use Rattle.arbitration.specs.declared.Demand.{Demand}
use Rattle.arbitration.specs.declared.DispatchMode.{DispatchMode}
use Rattle.window_config.specs.Config.{sound_config, preferring, accepts_budget, admitted}
use Rattle.arbitration.specs.Window.{new_window, refreshed, protection_deadline, next_deadline}
use Rattle.arbitration.specs.Key.{compare_keys}
use Rattle.arbitration.specs.Calls.{With, with, judged, period_deadline_call, protection_call, next_deadline_call}
use Rattle.dispatch_keys.specs.declared.DispatchKey.{DispatchKey}
use Rattle.policy_words.specs.PolicyWords.{parameters_of, backend_from}
use Rattle.window_words.specs.WindowWords.{mode_from, config_of, window_of, configured, progressed, demand_of}
use Rattle.window_words.specs.WindowWords.{dispatch_key_of}
use Rattle.window_entries.specs.Entries.{Left, left, left_of, stored_over, new_config_of, config_left, window_left}
use Rattle.window_entries.specs.Entries.{ordering_number}

-- The window of an accepted step has the configuration of w; that of a refused one is w.
abbrev Keeps : {A : Type 0} → CpuWindow → With A → Type 0
Keeps w (with (value a) v) = v.config ≡ w.config
Keeps w (with (refused n) v) = v ≡ w

choose_keeps : {A : Type 0} (w : CpuWindow) (b : Bool) (x y : With A) → Keeps w x → Keeps w y → Keeps w (choose b x y)
unfolding choose
choose_keeps w true x y h k = h
choose_keeps w false x y h k = k

one_keeps : (w : CpuWindow) (b : Bool) (x y : CpuWindow) → x.config ≡ w.config → y.config ≡ w.config
    → (choose b x y).config ≡ w.config
unfolding choose
one_keeps w true x y h k = h
one_keeps w false x y h k = k

refreshed_keeps : (w : CpuWindow) (now : ℕ) → (refreshed w now).config ≡ w.config
unfolding refreshed given
refreshed_keeps w now = one_keeps w (rises w.epoch (now / w.config.period_ns)) _ w refl refl

judged_keeps : {A : Type 0} (w : CpuWindow) (x : With A) → Keeps w x → Keeps w (judged w x)
unfolding judged
judged_keeps w x h = choose_keeps w (sound_config w.config) x (with (refused bad_config) w) h refl

period_keeps : (now : ℕ) (w : CpuWindow) → Keeps w (period_deadline_call w now)
unfolding period_deadline_call given
period_keeps now w = judged_keeps w (with (value (period_end now w.config.period_ns)) w) refl

protection_keeps : (now : ℕ) (waiting : Bool) (w : CpuWindow) → Keeps w (protection_call w now waiting)
unfolding protection_call given
protection_keeps now waiting w =
    judged_keeps w (with (value (protection_deadline (refreshed w now) now waiting)) (refreshed w now))
    (refreshed_keeps w now)

next_keeps : (now : ℕ) (m : DispatchMode) (competition : Bool) (d : Demand) (w : CpuWindow)
    → Keeps w (next_deadline_call w now m competition d)
unfolding next_deadline_call given
next_keeps now m competition d w =
    judged_keeps w _
    (choose_keeps w competition (with (value (next_deadline (refreshed w now) now m d)) (refreshed w now))
    (with (value None) (refreshed w now)) (refreshed_keeps w now) (refreshed_keeps w now))

same_window : (w v : CpuWindow) → v.config ≡ w.config
    → progressed w v.epoch v.priority_remaining_ns v.protected_remaining_ns ≡ v
same_window w v e = λ i. record {
  config = sym e i;
  epoch = v.epoch;
  priority_remaining_ns = v.priority_remaining_ns;
  protected_remaining_ns = v.protected_remaining_ns;
}

stored_whole : {A : Type 0} (before : A) (w : CpuWindow) (a : Answer A) (v : CpuWindow) → Keeps w (with a v)
    → stored_over before w a v ≡ left_of before (with a v)
unfolding stored_over left_of
stored_whole before w (value a) v k = λ i. left 0 a (same_window w v k i)
stored_whole before w (refused n) v k = λ i. left n before (sym k i)

-- The window of a call that keeps the configuration was stored whole.
kept : {A : Type 0} (before : A) (w : List ℕ) (call : CpuWindow → With A) → ((u : CpuWindow) → Keeps u (call u))
    → {a : Answer A} {v : CpuWindow} {y : Left A} → with a v ≡ call (window_of w)
    → y ≡ stored_over before (window_of w) a v → y ≡ left_of before (call (window_of w))
kept before w call keeps {a} {v} made k =
    let same : Keeps (window_of w) (with a v) = subst (λ x. Keeps (window_of w) x) (sym made) (keeps (window_of w)) in
    k ∙ stored_whole before (window_of w) a v same ∙ (λ i. left_of before (made i))

module _ (before : Option ℕ) (w : List ℕ) {b v : CpuWindow} {a : Answer (Option ℕ)} {y : Left (Option ℕ)} where
  pub period_left : (now : ℕ) → b ≡ window_of w → with a v ≡ period_deadline_call b now
      → y ≡ stored_over before (window_of w) a v → y ≡ left_of before (period_deadline_call (window_of w) now)
  period_left now e h k =
      let made : with a v ≡ period_deadline_call (window_of w) now = rw (sym e) h in
      kept before w (λ u. period_deadline_call u now) (period_keeps now) made k

  pub protection_left : (now : ℕ) (waiting : Bool) → b ≡ window_of w → with a v ≡ protection_call b now waiting
      → y ≡ stored_over before (window_of w) a v → y ≡ left_of before (protection_call (window_of w) now waiting)
  protection_left now waiting e h k =
      let made : with a v ≡ protection_call (window_of w) now waiting = rw (sym e) h in
      kept before w (λ u. protection_call u now waiting) (protection_keeps now waiting) made k

  pub next_left : (now tag : ℕ) (competition : Bool) (flags : List ℕ) {m : DispatchMode} {d : Demand}
      → b ≡ window_of w → m ≡ mode_from tag → d ≡ demand_of flags → with a v ≡ next_deadline_call b now m competition d
      → y ≡ stored_over before (window_of w) a v
      → y ≡ left_of before (next_deadline_call (window_of w) now (mode_from tag) competition (demand_of flags))
  next_left now tag competition flags {m} {d} e e₁ e₂ h k =
      let made : with a v ≡ next_deadline_call (window_of w) now (mode_from tag) competition
      (demand_of flags) = rw (sym e, sym e₁, sym e₂) h in
      kept before w (λ u. next_deadline_call u now (mode_from tag) competition (demand_of flags))
      (next_keeps now (mode_from tag) competition (demand_of flags)) made k

-- An accepted step's window and answer were stored, a refusal's number is told.
module _ (before : Option ℕ) (w v : CpuWindow) {u : CpuWindow} {x : Result (Option ℕ) Refusal} where
  pub deadline_stored : {d after : Option ℕ} → x ≡ Ok d → after ≡ d
      → u ≡ progressed w v.epoch v.priority_remaining_ns v.protected_remaining_ns
      → left 0 after u ≡ stored_over before w (by_number x) v
  unfolding stored_over
  deadline_stored e f h = rw (e, f, h) refl

module _ (w v : CpuWindow) {r : Refusal} (n : ℕ) where
  pub deadline_refused : (before : Option ℕ) {x : Result (Option ℕ) Refusal} → x ≡ Err r → n ≡ number_of r
      → left n before w ≡ stored_over before w (by_number x) v
  unfolding stored_over
  deadline_refused before e f = rw (e, f) refl

-- The configuration, or the window, that was made was stored.
module _ (w : List ℕ) (g : ArbitrationConfig) {x : Result ArbitrationConfig Refusal} where
  pub config_made_lem : {c : ArbitrationConfig} {v : CpuWindow} → g ≡ config_of w → by_number x ≡ new_config_of g
      → x ≡ Ok c → v ≡ configured (window_of w) c
      → left 0 tt v ≡ config_left (window_of w) (new_config_of (config_of w))
  unfolding config_left
  config_made_lem e h m f = rw (sym e, sym h, m, f) refl

  pub config_refused : {r : Refusal} (n : ℕ) → g ≡ config_of w → by_number x ≡ new_config_of g → x ≡ Err r
      → n ≡ number_of r
      → left n tt (window_of w) ≡ config_left (window_of w) (new_config_of (config_of w))
  unfolding config_left
  config_refused n e h m f = rw (sym e, sym h, m, f) refl

module _ (w : List ℕ) (g : ArbitrationConfig) {x : Result CpuWindow Refusal} where
  pub window_made_lem : {u v : CpuWindow} → g ≡ config_of w → by_number x ≡ new_window g → x ≡ Ok u → v ≡ u
      → left 0 tt v ≡ window_left (window_of w) (new_window (config_of w))
  unfolding window_left
  window_made_lem e h m f = rw (sym e, sym h, m, f) refl

  pub window_refused : {r : Refusal} (n : ℕ) → g ≡ config_of w → by_number x ≡ new_window g → x ≡ Err r
      → n ≡ number_of r
      → left n tt (window_of w) ≡ window_left (window_of w) (new_window (config_of w))
  unfolding window_left
  window_refused n e h m f = rw (sym e, sym h, m, f) refl

-- A call on what the words were read as is one on what they stand for.
module _ (w row : List ℕ) {c : ArbitrationConfig} {p : SchedulingParameters} {r : Bool} where
  pub accepts_read : c ≡ config_of w → p ≡ parameters_of row → r ≡ accepts_budget c p
      → r ≡ accepts_budget (config_of w) (parameters_of row)
  accepts_read e e₁ h = rw (sym e, sym e₁) h

  pub admits_read : (backend : ℕ) {b : FairBackend} → c ≡ config_of w → p ≡ parameters_of row → b ≡ backend_from backend
      → r ≡ admitted c p b
      → r ≡ admitted (config_of w) (parameters_of row) (backend_from backend)
  admits_read backend e e₁ e₂ h = rw (sym e, sym e₁, sym e₂) h

pub preference_stored : (w : List ℕ) (prefer : Bool) {c k : ArbitrationConfig} {v : CpuWindow} → c ≡ config_of w
    → k ≡ preferring c prefer → v ≡ configured (window_of w) k
    → v ≡ configured (window_of w) (preferring (config_of w) prefer)
preference_stored w prefer e f h = rw (sym e, sym f) h

pub period_read : (w : List ℕ) {v : CpuWindow} {n : ℕ} → v ≡ window_of w → n ≡ v.config.period_ns
    → n ≡ (window_of w).config.period_ns
period_read w e h = rw (sym e) h

pub keys_compared : (a b : List ℕ) {x y : DispatchKey} {o : Ordering} {n : ℕ} → x ≡ dispatch_key_of a
    → y ≡ dispatch_key_of b → o ≡ compare_keys x y → n ≡ ordering_number o
    → n ≡ ordering_number (compare_keys (dispatch_key_of a) (dispatch_key_of b))
keys_compared a b e f h k = rw (sym e, sym f, sym h) k

pub ruleset entries = (
  period_left,
  protection_left,
  next_left,
  deadline_stored,
  deadline_refused,
  config_made_lem,
  config_refused,
  window_made_lem,
  window_refused,
  accepts_read,
  admits_read,
  preference_stored,
  period_read,
  keys_compared,
)
