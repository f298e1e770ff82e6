-- Past the change of period, a queued thread's tree says of which class it is, under the premises on the selection.
use Rattle.std.specs.Prelude.{ℕ, ◌+◌, ◌≤◌, ◌<◌, ◌≡◌, Bool, not, List, eqb, ltb, Option, Ok}
use Rattle.std.proofs.Math.Path.{refl}
use Rattle.std.proofs.Common.{sym, ap, ◌∙◌, arith, eq-eqb, ne_eqb, lt-ltb, le-ltb}
use Rattle.std.proofs.Math.Bool.{true, false}
use Rattle.refusal.specs.Cases.{never, choose}
use Rattle.policy.specs.declared.FairBackend.{FairBackend}
use Rattle.policy.specs.declared.FairBackend.TheVariants as backend
use Rattle.policy.specs.declared.SchedulingParameters.{SchedulingParameters}
use Rattle.policy.specs.declared.SchedulingPolicy.TheVariants as policy
use Rattle.policy.specs.PolicyCases.{on_policy, on_backend}
use Rattle.window_config.specs.declared.ArbitrationConfig.{ArbitrationConfig}
use Rattle.arbitration.specs.declared.CpuWindow.{CpuWindow}
use Rattle.window_config.specs.Config.{accepts_budget, same_backend, admitted}
use Rattle.thread.specs.declared.ThreadRecord.{ThreadRecord}
use Rattle.thread.specs.Filing.{budget_available_of, role_index, budget_exhausted, budget_ready, fair_index}
use Rattle.thread.specs.FilingLaws.{role_index_le}
use Rattle.rows.specs.Table.{record_of}
use Rattle.ready_index.specs.Index.{contains}
use Rattle.queue.specs.RunQueue.{CpuRunQueue, tree_count}
use Rattle.queue.specs.Queue.{root_of, is_budget, on_contained}
use Rattle.renewal.specs.Renewal.{is_epoch}
use Rattle.sound_queue.specs.ForestLaws.{contains_placed}
use Rattle.sound_queue.specs.Sound.{Sound}
use Rattle.sound_queue.specs.SoundLaws.{queued_inside}
use Rattle.sound_queue.specs.Runtimes.{BudgetTree, with_time, exhausted}
use Rattle.sound_selection.specs.Claim.{refreshed_to, filed_ready, Premises}
use Rattle.sound_selection.specs.RefreshLaws.{refreshed_parameters}
use Rattle.sound_selection.specs.Changes.{bare_at, Standing, in_fifo, in_fair, in_budget}
use Rattle.sound_selection.specs.ChangeLaws.{shift_fresher, fresher_parameters, standing}
use Rattle.sound_selection.specs.Classes.{Class, fifo_class, fair_class, ready_class, exhausted_class}
use Rattle.sound_selection.specs.Selecting.{epoch, Turn}
use Rattle.arbitration.specs.declared.Candidate.{Candidate}

-- Who is admitted has a budget of the window's period, if any, and is of the one backend, if Fair.
pub admitted_accepts : (c : ArbitrationConfig) (p : SchedulingParameters) (f : FairBackend) → admitted c p f ≡ true
    → accepts_budget c p ≡ true
unfolding admitted choose
admitted_accepts c p f h = go (accepts_budget c p) refl h
  where
    go : (x : Bool) → accepts_budget c p ≡ x
        → choose x (on_policy p.policy (λ priority. true) (same_backend p.fair_backend f) true false) false ≡ true
        → accepts_budget c p ≡ true
    go true e h = e
    go false e h = never cc

same_backend_lem : (a b : FairBackend) → same_backend a b ≡ true → a ≡ b
unfolding same_backend on_backend
same_backend_lem backend.Stride backend.Stride e = refl
same_backend_lem backend.Stride backend.RoundRobin e = never cc
same_backend_lem backend.RoundRobin backend.Stride e = never cc
same_backend_lem backend.RoundRobin backend.RoundRobin e = refl

fair_admitted : (c : ArbitrationConfig) (p : SchedulingParameters) (f : FairBackend) → accepts_budget c p ≡ true
    → p.policy ≡ policy.Fair → admitted c p f ≡ same_backend p.fair_backend f
unfolding admitted choose on_policy
fair_admitted c p f a e = rw (a, e)

pub admitted_backend : (c : ArbitrationConfig) (p : SchedulingParameters) (f : FairBackend) → admitted c p f ≡ true
    → p.policy ≡ policy.Fair → p.fair_backend ≡ f
admitted_backend c p f h e =
    same_backend_lem p.fair_backend f (sym (fair_admitted c p f (admitted_accepts c p f h) e) ∙ h)

module _ {queued : ℕ → Bool} {q : CpuRunQueue} {t : List ThreadRecord} (S : Sound queued q t)
    (now : ℕ) (w : CpuWindow) (current : Option Candidate)
    (T : Turn S now w current) where
  -- Parameters are as they were handed in.
  pub parameters_after : (j : ℕ) → (record_of T.table j).parameters ≡ (record_of t j).parameters
  unfolding bare_at
  parameters_after j = fresher_parameters (shift_fresher (T.shift j))

  module _ (j : ℕ) (e : queued j ≡ true) where
    abbrev its_role : ℕ
    its_role = role_index (record_of t j).parameters.role

    low : its_role ≤ 2
    low = role_index_le (record_of t j).parameters.role

    contains_is : contains t (root_of q (budget_ready + its_role)) j
        ≡ choose (eqb (S.place j) (budget_ready + its_role)) (Ok true) (Ok false)
    contains_is = contains_placed S.forest j (budget_ready + its_role) (omega (arith, low)) (queued_inside S j e)

    filed_by : (x : Bool) → eqb (S.place j) (budget_ready + its_role) ≡ x
        → filed_ready q t (epoch S now w current) j
        ≡ choose x true (not (is_epoch q.budget_epoch (epoch S now w current)))
    unfolding filed_ready on_contained choose
    filed_by true h = rw (contains_is, h)
    filed_by false h = rw (contains_is, h)

    -- The premise's word agrees with the tree past the change of period.
    filed_left : BudgetTree its_role (T.sound.place j)
        → filed_ready q t (epoch S now w current) j ≡ ltb (T.sound.place j) budget_exhausted
    unfolding choose
    filed_left b = go (is_epoch q.budget_epoch (epoch S now w current)) refl b
      where
        always : (x : Bool) → is_epoch q.budget_epoch (epoch S now w current) ≡ false
            → choose x true (not (is_epoch q.budget_epoch (epoch S now w current))) ≡ true
        always true h = refl
        always false h = rw h

        go : (x : Bool) → is_epoch q.budget_epoch (epoch S now w current) ≡ x
            → BudgetTree its_role (T.sound.place j)
            → filed_ready q t (epoch S now w current) j ≡ ltb (T.sound.place j) budget_exhausted
        go true h (with_time k) =
            filed_by true (eq-eqb (S.place j) (budget_ready + its_role) (sym (T.still h j) ∙ k))
            ∙ sym (lt-ltb (T.sound.place j) budget_exhausted (omega (arith, low)))
        go true h (exhausted k) =
            filed_by false (ne_eqb (S.place j) (budget_ready + its_role) (λ z. omega (arith, T.still h j)))
            ∙ rw h (sym (le-ltb (T.sound.place j) budget_exhausted (omega arith)))
        go false h b =
            filed_by (eqb (S.place j) (budget_ready + its_role)) refl ∙ always
            (eqb (S.place j) (budget_ready + its_role)) h
            ∙ sym (lt-ltb (T.sound.place j) budget_exhausted (T.clear h j (tree_low b)))
          where
            tree_low : BudgetTree its_role (T.sound.place j) → T.sound.place j < tree_count
            tree_low (with_time k) = omega (arith, low)
            tree_low (exhausted k) = omega (arith, low)

    abbrev record_now : ThreadRecord
    record_now = refreshed_to now (record_of t j)

    same_now : record_now.parameters ≡ (record_of T.table j).parameters
    same_now = refreshed_parameters now (record_of t j) ∙ sym (parameters_after j)

    role_now : role_index (record_of T.table j).parameters.role ≡ role_index record_now.parameters.role
    role_now = ap (λ (p : SchedulingParameters). role_index p.role) (sym same_now)

    role_then : role_index (record_of T.table j).parameters.role ≡ its_role
    role_then = ap (λ (p : SchedulingParameters). role_index p.role) (parameters_after j)

    module _ (P : Premises queued q t now w) where
      left_is : (record_of T.table j).parameters.policy ≡ policy.Budget → BudgetTree its_role (T.sound.place j)
          → budget_available_of record_now.runtime ≡ ltb (T.sound.place j) budget_exhausted
      unfolding is_budget on_policy
      left_is x b =
          P.filing j e (rw (ap (λ (p : SchedulingParameters). p.policy) (sym (parameters_after j)) ∙ x))
          ∙ filed_left b

      class_by : Standing (record_of T.table j) (T.sound.place j) → Class (T.sound.place j) record_now
      class_by (in_fifo p x y) = fifo_class p (ap (λ (r : SchedulingParameters). r.policy) same_now ∙ x) (y ∙ role_now)
      class_by (in_fair x y) =
          fair_class (ap (λ (r : SchedulingParameters). r.policy) same_now ∙ x) (y ∙ ap (λ n. fair_index + n) role_now)
      class_by (in_budget x (with_time y)) =
          ready_class (ap (λ (r : SchedulingParameters). r.policy) same_now ∙ x)
          (left_is x (with_time (omega (arith, role_then)))
          ∙ lt-ltb (T.sound.place j) budget_exhausted (omega (arith, role_then, low)))
          (y ∙ ap (λ n. budget_ready + n) role_now)
      class_by (in_budget x (exhausted y)) =
          exhausted_class (ap (λ (r : SchedulingParameters). r.policy) same_now ∙ x)
          (left_is x (exhausted (omega (arith, role_then))) ∙ le-ltb (T.sound.place j) budget_exhausted (omega arith))
          (y ∙ ap (λ n. budget_exhausted + n) role_now)

      -- Of the class of its tree.
      pub classed : Class (T.sound.place j) (refreshed_to now (record_of t j))
      classed = class_by (standing (record_of T.table j) (T.sound.place j) (T.sound.threads j e).filed)
