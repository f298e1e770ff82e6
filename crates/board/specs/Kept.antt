-- What the calls leave of counters and window: at a refusal all of it, else of the window its configuration, so that
-- storing the epoch and what remains of allowance and floor stores the whole window.
use Rattle.std.specs.Prelude.{ℕ, ◌≡◌, Bool, List, ltb, Option, Some, None}
use Rattle.std.proofs.Math.Path.{refl}
use Rattle.std.proofs.Common.{sym, ap, subst, ◌∙◌}
use Rattle.std.proofs.Math.Bool.{true, false}
use Rattle.refusal.specs.Answer.{Answer, value, refused, bad_config, back_in_time}
use Rattle.refusal.specs.Cases.{never, choose, given, if_less, and_then}
use Rattle.algorithms.specs.declared.PolicyRuntime.{PolicyRuntime}
use Rattle.algorithms.specs.Runtime.{accounted}
use Rattle.policy.specs.declared.SchedulingParameters.{SchedulingParameters}
use Rattle.window_config.specs.declared.ArbitrationConfig.{ArbitrationConfig}
use Rattle.window_config.specs.Config.{sound_config}
use Rattle.arbitration.specs.declared.CpuWindow.{CpuWindow}
use Rattle.arbitration.specs.declared.DispatchMode.{DispatchMode}
use Rattle.arbitration.specs.Window.{refreshed, charged, next_deadline}
use Rattle.arbitration.specs.ArbitrationLaws.{refreshed_config}
use Rattle.arbitration.specs.Calls.{With, with, judged, account_call, next_deadline_call}
use Rattle.thread.specs.declared.ThreadRecord.{ThreadRecord}
use Rattle.rows.specs.Table.{Out, out}
use Rattle.decisions.specs.declared.Contention.{Contention}
use Rattle.decisions.specs.declared.Turns.{Turns}
use Rattle.decisions.specs.OwnDeadline.{on_key_mode, own_deadline}
use Rattle.runtime.specs.declared.Accounting.{Accounting}
use Rattle.runtime.specs.declared.Due.{Due}
use Rattle.runtime.specs.declared.Preparation.{Preparation}
use Rattle.runtime.specs.Judging.{judged_with, on_with}
use Rattle.runtime.specs.Prepare.{Counted, counted, preparation, prepared, prepare_enqueue}
use Rattle.runtime.specs.Account.{account_record, accounting, settled, account_current}
use Rattle.runtime.specs.Deadline.{due_with, due_without, due_at, due_of, armed, refresh_deadline}
use Rattle.window_words.specs.WindowWords.{progressed}

-- Preparing.
abbrev turns_left : Out Counted → Turns
turns_left (out (counted a c) t) = c

pub turns_kept : (t : List ThreadRecord) (id : ℕ) (front : Bool) (now : ℕ) (c : Turns) {d : Turns} {n : ℕ}
    {s : List ThreadRecord} → out (counted (refused n) d) s ≡ prepare_enqueue t id front now c → d ≡ c
unfolding prepare_enqueue prepared
turns_kept t id front now c {d} {n} {s} e = go (preparation t id front now c) e
  where
    go : (x : Answer Preparation) → out (counted (refused n) d) s ≡ prepared t id c x → d ≡ c
    go (value p) e = never cc
    go (refused m) e = ap turns_left e

-- A window's call.
abbrev Kept : {A : Type 0} → CpuWindow → Out (With A) → Type 0
Kept w (out (with (value a) v) t) = v.config ≡ w.config
Kept w (out (with (refused n) v) t) = v ≡ w

-- The window of an answer has the configuration of the one that was given; so of a step, where it is accepted.
abbrev Like : {A : Type 0} → CpuWindow → (A → CpuWindow) → Answer A → Type 0
Like w window (value a) = (window a).config ≡ w.config
Like w window (refused n) = Unit {0}

abbrev LikeStep : {A : Type 0} → CpuWindow → With A → Type 0
LikeStep w (with (value a) v) = v.config ≡ w.config
LikeStep w (with (refused n) v) = Unit {0}

module _ {A B : Type 0} (w : CpuWindow) (window : B → CpuWindow) where
  then_like : (x : Answer A) (f : A → Answer B) → ((a : A) → Like w window (f a)) → Like w window (and_then x f)
  unfolding and_then
  then_like (value a) f h = h a
  then_like (refused n) f h = tt

  step_like : (x : With A) (f : A → CpuWindow → Answer B)
      → ((a : A) (v : CpuWindow) → v.config ≡ w.config → Like w window (f a v))
      → LikeStep w x → Like w window (on_with x refused f)
  unfolding on_with
  step_like (with (value a) v) f h e = h a v e
  step_like (with (refused n) v) f h e = tt

-- Accounting.
module _ (t : List ThreadRecord) (id : ℕ) (w : CpuWindow) (m : DispatchMode) (start end : ℕ) where
  charged_like : (p : SchedulingParameters) → LikeStep w (account_call w start end p m)
  unfolding account_call judged if_less choose given charged
  charged_like p = go (sound_config w.config) (ltb end start)
    where
      go : (sound back : Bool)
          → LikeStep {A = Unit {0}} w (choose sound
          (choose back (with (refused back_in_time) w) (with (value tt) (charged w start end p m)))
          (with (refused bad_config) w))
      go false back = tt
      go true true = tt
      go true false = refreshed_config w end

  record_like : (r : ThreadRecord) → Like w (λ a. a.window) (account_record r w m start end)
  unfolding account_record
  record_like r =
      then_like w (λ a. a.window) (accounted r.runtime r.parameters start end) _
      (λ x. step_like w (λ a. a.window) (account_call w start end r.parameters m) _ (λ u v h. h)
      (charged_like r.parameters))

  settled_kept : (x : Answer Accounting) → Like w (λ a. a.window) x → Kept w (settled t id w x)
  unfolding settled
  settled_kept (value a) h = h
  settled_kept (refused n) h = refl

  pub account_kept : Kept w (account_current t id w m start end)
  unfolding account_current accounting
  account_kept =
      settled_kept (accounting t id w m start end) (then_like w (λ a. a.window) (judged_with t id w) _ record_like)

-- The choice of deadline.
module _ (t : List ThreadRecord) (id now : ℕ) (w : CpuWindow) (x : Contention) where
  next_like : (m : DispatchMode) → LikeStep w (next_deadline_call w now m x.competition x.demand)
  unfolding next_deadline_call judged choose given
  next_like m = go (sound_config w.config) x.competition
    where
      go : (sound competition : Bool)
          → LikeStep {A = (Option ℕ)} w (choose sound
          (choose competition
          (with (value (next_deadline (refreshed w now) now m x.demand)) (refreshed w now))
          (with (value None) (refreshed w now)))
          (with (refused bad_config) w))
      go false competition = tt
      go true true = refreshed_config w now
      go true false = refreshed_config w now

  keyed_like : (m : DispatchMode) (r : ThreadRecord) → Like w (λ d. d.window) (due_with now r m w x)
  unfolding due_with given
  keyed_like m r =
      then_like w (λ d. d.window) (own_deadline now r.runtime r.parameters m x) _
      (λ own. step_like w (λ d. d.window) (next_deadline_call w now m x.competition x.demand) _ (λ end v h. h)
      (next_like m))

  due_like : (m : Option DispatchMode) (r : ThreadRecord) → Like w (λ d. d.window) (due_at now r m w x)
  unfolding due_at on_key_mode given due_without choose
  due_like None r = go x.competition
    where
      go : (c : Bool)
          → Like {A = Due} w (λ d. d.window) (value (choose c
          (record { runtime = r.runtime; window = w; deadline = Some now })
          (record { runtime = r.runtime; window = w; deadline = None })))
      go true = refl
      go false = refl
  due_like (Some m) r = keyed_like m r

  armed_kept : (y : Answer Due) → Like w (λ d. d.window) y → Kept w (armed t id w y)
  unfolding armed
  armed_kept (value d) h = h
  armed_kept (refused n) h = refl

  pub deadline_kept : (m : Option DispatchMode) → Kept w (refresh_deadline t id now m w x)
  unfolding refresh_deadline due_of
  deadline_kept m =
      armed_kept (due_of t id now m w x) (then_like w (λ d. d.window) (judged_with t id w) _ (due_like m))

-- A window with another's epoch and remainders, whose configuration is the same, is that other.
progressed_is : (u v : CpuWindow) → u.config ≡ v.config
    → progressed v u.epoch u.priority_remaining_ns u.protected_remaining_ns ≡ u
progressed_is u v h =
    ap
    (λ (x : ArbitrationConfig). record {
      config = x;
      epoch = u.epoch;
      priority_remaining_ns = u.priority_remaining_ns;
      protected_remaining_ns = u.protected_remaining_ns;
    })
    (sym h)

-- So of a call that answered: at a refusal the window that was given, else the one with what time changed.
module _ {A : Type 0} (w : CpuWindow) {x : Out (With A)} {v : CpuWindow} {t : List ThreadRecord} where
  pub left_so : {a : A} → Kept w x → out (with (value a) v) t ≡ x
      → progressed w v.epoch v.priority_remaining_ns v.protected_remaining_ns ≡ v
  left_so {a} k e =
      let same : Kept w (out (with (value a) v) t) = subst (Kept w) (sym e) k in
      progressed_is v w same

  pub left_as_was : {n : ℕ} → Kept w x → out (with (refused n) v) t ≡ x → v ≡ w
  left_as_was {n} k e =
      let same : Kept {A = A} w (out (with (refused n) v) t) = subst (Kept w) (sym e) k in
      same
