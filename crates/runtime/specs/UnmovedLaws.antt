-- Laws by which a refusal leaves every word: nothing was stored before it, or the call cannot refuse any more.
use Rattle.std.specs.Prelude.{ℕ, ◌<◌, ◌≡◌, refl, Bool, true, false, List, ltb, Option, None, Result, Ok}
use Rattle.std.proofs.Common.{sym, ap, ◌∙◌, subst, lt-ltb, ltb-true}
use Rattle.refusal.specs.Answer.{Answer, value, refused, bad_budget, back_in_time, by_number}
use Rattle.refusal.specs.Cases.{choose, given, if_less}
use Rattle.policy.specs.declared.BudgetParameters.{BudgetParameters}
use Rattle.policy.specs.declared.SchedulingParameters.{SchedulingParameters}
use Rattle.policy.specs.Budget.{sound_budget}
use Rattle.budget.specs.declared.BudgetRuntime.{BudgetRuntime}
use Rattle.budget.specs.Runtime.{charged, accounted_interval}
use Rattle.budget.specs.Runtime as budget
use Rattle.window_config.specs.Config.{sound_config}
use Rattle.arbitration.specs.declared.CpuWindow.{CpuWindow}
use Rattle.arbitration.specs.declared.Demand.{Demand}
use Rattle.arbitration.specs.declared.DispatchMode.{DispatchMode}
use Rattle.arbitration.specs.declared.WindowDeadline.{WindowDeadline}
use Rattle.arbitration.specs.declared.WindowStep.{WindowStep}
use Rattle.arbitration.specs.Window.{refreshed, next_deadline}
use Rattle.arbitration.specs.Window as window
use Rattle.arbitration.specs.Answers.{window_step, window_deadline}
use Rattle.arbitration.specs.Calls.{With, with, judged, account_call, next_deadline_call}
use Rattle.rows.specs.Unmoved.{Unmoved, as_it_was}
use Rattle.runtime.specs.Rows.{earlier_of}
use Rattle.refusal.specs.declared.Refusal.{Refusal}

-- A runtime is an answer.
pub runtime_stored_lem : (b c : List (List ℕ)) {a : Result BudgetRuntime Refusal} {r : BudgetRuntime} → a ≡ Ok r
    → Unmoved (by_number a) b c
runtime_stored_lem b c e = rw e tt

-- With the end before the start no budget is charged,
pub not_charged : {B : Type 0} {b c : B} {x : Answer BudgetRuntime} (r : BudgetRuntime) (start end : ℕ)
    (p : BudgetParameters) → x ≡ accounted_interval r start end p → Unmoved x b c → end < start → c ≡ b
unfolding accounted_interval budget.judged if_less choose
not_charged {B} {b} {c} {x} r start end p e u l =
    go (sound_budget p) (rw (lt-ltb end start l) at e)
  where
    go : (s : Bool) → x ≡ choose s (refused back_in_time) (refused bad_budget) → c ≡ b
    go true h = subst (λ (y : Answer BudgetRuntime). Unmoved y b c) h u
    go false h = subst (λ (y : Answer BudgetRuntime). Unmoved y b c) h u

abbrev answer_of : {A : Type 0} → With A → Answer A
answer_of (with a w) = a

-- and that is all that a sound window refuses;
pub not_accounted : {B : Type 0} {b c : B} (r : WindowStep) (w : CpuWindow) (start end : ℕ) (p : SchedulingParameters)
    (m : DispatchMode) → sound_config w.config ≡ true → window_step r ≡ account_call w start end p m
    → (end < start → c ≡ b) → Unmoved (by_number r.answer) b c
unfolding account_call judged if_less choose given
not_accounted {B} {b} {c} r w start end p m s e u = go (ltb end start) refl (rw s at e)
  where
    go : (x : Bool) → ltb end start ≡ x
        → window_step r ≡ choose x (with (refused back_in_time) w) (with (value tt) (window.charged w start end p m))
        → Unmoved (by_number r.answer) b c
    go true t h = as_it_was (by_number r.answer) (u (ltb-true end start t))
    go false t h =
        subst (λ (y : Answer (Unit {0})). Unmoved y b c) (sym (ap (λ (y : With (Unit {0})). answer_of y) h)) tt

-- nor does it refuse a deadline.
pub due_answered : (b c : List (List ℕ)) (r step : WindowDeadline) (own : Option ℕ) (w : CpuWindow) (now : ℕ)
    (m : DispatchMode) (competition : Bool) (d : Demand) → sound_config w.config ≡ true
    → window_deadline step ≡ next_deadline_call w now m competition d
    → window_deadline r ≡ earlier_of (window_deadline step) own → Unmoved (by_number r.answer) b c
unfolding next_deadline_call judged choose given earlier_of
due_answered b c r step own w now m competition d s e f = go competition (rw s at e)
  where
    answered : (a : Option ℕ) (v : CpuWindow) → window_deadline step ≡ with (value a) v
        → Unmoved (by_number r.answer) b c
    answered a v h =
        subst (λ (y : Answer (Option ℕ)). Unmoved y b c)
        (sym (ap (λ (y : With (Option ℕ)). answer_of y) (f ∙ ap (λ (y : With (Option ℕ)). earlier_of y own) h))) tt

    go : (x : Bool) → window_deadline step
        ≡ choose x (with (value (next_deadline (refreshed w now) now m d)) (refreshed w now))
        (with (value None) (refreshed w now)) → Unmoved (by_number r.answer) b c
    go true h = answered _ _ h
    go false h = answered _ _ h

pub ruleset refusing = (runtime_stored_lem, not_charged, not_accounted, due_answered)
