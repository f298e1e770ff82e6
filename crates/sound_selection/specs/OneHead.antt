-- A head of a sound queue is ready on its own processor, judged, and refreshed, and the queue is sound after that; on
-- another processor it is refused.
use Rattle.std.specs.Prelude.{ℕ, zero, suc, ◌≡◌, refl, Bool, ◌≢◌, List, eqb, Some, None, Ok, Err}
use Rattle.std.proofs.Math.Path.{sym, ap}
use Rattle.std.proofs.Common.{◌∙◌, subst, eq-eqb, ne_eqb}
use Rattle.std.proofs.Math.Bool.{true, false}
use Rattle.refusal.specs.Answer.{value, refused, damaged, damage}
use Rattle.refusal.specs.Cases.{never, choose, given, if_equal}
use Rattle.policy.specs.declared.BudgetParameters.{BudgetParameters}
use Rattle.policy.specs.declared.SchedulingPolicy.TheVariants as policy
use Rattle.budget.specs.Runtime as budget
use Rattle.algorithms.specs.declared.PolicyRuntime.{PolicyRuntime}
use Rattle.algorithms.specs.declared.PolicyRuntime.TheVariants as runtime
use Rattle.algorithms.specs.Runtime.{epoch_refreshed}
use Rattle.thread.specs.declared.CpuIndex.{CpuIndex}
use Rattle.thread.specs.declared.QueueMembership.{QueueMembership}
use Rattle.thread.specs.declared.ThreadRecord.{ThreadRecord}
use Rattle.thread.specs.Judgement.{is_bad_record}
use Rattle.thread.specs.Membership.{on_membership, on_cpu, ready_cpu, is_ready_on, empty_links}
use Rattle.thread.specs.Records.{with_runtime, with_links}
use Rattle.rows.specs.Table.{out, record_of, record_at, changed}
use Rattle.rows.specs.TableCases.{on_record}
use Rattle.rows.specs.TableLaws.{length_changed, record_same, record_other, record_within, reading_other}
use Rattle.rows.specs.TableLaws.{after_set_runtime, key_set_runtime, budget_key_kept}
use Rattle.lists.specs.Lists.{on_answer, on_out}
use Rattle.queue.specs.RunQueue.{CpuRunQueue}
use Rattle.demands.specs.Demands.{candidate_of}
use Rattle.renewal.specs.Renewal.{refresh_record}
use Rattle.selection.specs.Heads.{head_at}
use Rattle.sound_queue.specs.Lists.{membership_at, list_for}
use Rattle.sound_queue.specs.PlaceLaws.{same_or_not}
use Rattle.sound_queue.specs.Sound.{Sound}
use Rattle.sound_queue.specs.SoundLaws.{queued_inside, queued_membership}
use Rattle.sound_queue.specs.Runtimes.{refresh_sound, refresh_place}
use Rattle.sound_selection.specs.Claim.{refreshed_to, candidate_now}
use Rattle.sound_selection.specs.RefreshLaws.{Refreshes, plain, budgeted, refreshes, refreshed_by}
use Rattle.sound_selection.specs.RefreshLaws.{refreshed_links, budget_judged, refresh_plain, refresh_budget}
use Rattle.sound_selection.specs.Changes.{bare_at, Fresher, kept, fresh, Passed}

-- The membership of a list of a processor is ready there, and nowhere else.
ready_on : (d cpu : CpuIndex) (n : ℕ) → is_ready_on (membership_at d n) cpu ≡ eqb d.0 cpu.0
unfolding is_ready_on membership_at ready_cpu on_membership on_cpu if_equal choose
ready_on d cpu n = go n (eqb d.0 cpu.0) refl
  where
    go : (m : ℕ) (x : Bool) → eqb d.0 cpu.0 ≡ x → is_ready_on (membership_at d m) cpu ≡ eqb d.0 cpu.0
    go zero true e = rw e
    go zero false e = rw e
    go (suc p) true e = rw e
    go (suc p) false e = rw e

-- The head is accepted with what it then asks for; what it leaves.
pub record Headed {queued : ℕ → Bool} {q : CpuRunQueue} {t : List ThreadRecord}
    (S : Sound queued q t) (cpu : CpuIndex) (now i : ℕ) : Type 0 where
  pub table : List ThreadRecord
  pub is : head_at t i cpu now ≡ out (value (candidate_now t now i)) table
  pub passed : Passed S now table
  pub own : bare_at table i ≡ refreshed_to now (bare_at t i)

-- Whether a queued thread is ready on a processor.
ready_if_own : {queued : ℕ → Bool} {q : CpuRunQueue} {t : List ThreadRecord} (S : Sound queued q t) (cpu : CpuIndex)
    (i : ℕ) → queued i ≡ true
    → is_ready_on (record_of t i).queue_links.membership cpu ≡ eqb (record_of t i).cpu.0 cpu.0
ready_if_own {queued} {q} {t} S cpu i e =
    let n = list_for (record_of t i).parameters.policy in
    ap (λ (m : QueueMembership). is_ready_on m cpu) (queued_membership S i e) ∙ ready_on (S.cpus n) cpu n
    ∙ ap (λ c. eqb c cpu.0) (sym (S.threads i e).assigned)

-- A head that is not this processor's: Damaged, with nothing changed.
pub not_headed : {queued : ℕ → Bool} {q : CpuRunQueue} {t : List ThreadRecord} (S : Sound queued q t) (cpu : CpuIndex)
    (now i : ℕ) → queued i ≡ true → (record_of t i).cpu.0 ≢ cpu.0 → head_at t i cpu now ≡ out (refused damaged) t
unfolding head_at on_record choose
not_headed {queued} {q} {t} S cpu now i e d =
    rw (record_within t i (queued_inside S i e), ready_if_own S cpu i e, ne_eqb (record_of t i).cpu.0 cpu.0 d)

module _ {queued : ℕ → Bool} {q : CpuRunQueue} {t : List ThreadRecord} (S : Sound queued q t) (cpu : CpuIndex)
    (now i : ℕ) (e : queued i ≡ true) (own : (record_of t i).cpu.0 ≡ cpu.0) where
  is_ready : is_ready_on (record_of t i).queue_links.membership cpu ≡ true
  is_ready = ready_if_own S cpu i e ∙ eq-eqb (record_of t i).cpu.0 cpu.0 own

  -- By what refreshing the record comes to.
  head_by : (r : ThreadRecord) (s : List ThreadRecord) → refresh_record t i (record_of t i) now ≡ out (value r) s
      → r ≡ refreshed_to now (record_of t i)
      → head_at t i cpu now ≡ out (value (candidate_now t now i)) s
  unfolding head_at on_record choose on_out on_answer given candidate_now
  head_by r s h k =
      rw (record_within t i (queued_inside S i e), is_ready, h)
      (ap (λ (x : ThreadRecord). out (value (candidate_of x)) s) k)

  bare_refreshed : (r : ThreadRecord) → refreshed_to now (record_of t i) ≡ r
      → with_links empty_links r ≡ refreshed_to now (bare_at t i)
  unfolding bare_at
  bare_refreshed r h = ap (with_links empty_links) (sym h) ∙ sym (refreshed_links now empty_links (record_of t i))

  -- No budget: nothing changes.
  headed_plain : (record_of t i).parameters.budget ≡ None → refreshed_to now (record_of t i) ≡ record_of t i
      → Headed S cpu now i
  unfolding bare_at
  headed_plain n h = record {
    table = t;
    is = head_by (record_of t i) t (refresh_plain now (record_of t i) (S.threads i e).judged t i n) (sym h);
    passed =
        record {
          sound = S;
          places = λ j. refl;
          len = refl;
          fresher = λ j. kept refl;
          keys = λ j. refl;
          others = λ j f. refl;
        };
    own = bare_refreshed (record_of t i) h;
  }

  -- A budget: its runtime is stored.
  module _ (y : PolicyRuntime) (p : BudgetParameters) (b : (record_of t i).parameters.policy ≡ policy.Budget)
      (g : (record_of t i).parameters.budget ≡ Some p)
      (h : is_bad_record (with_runtime y (record_of t i)) ≡ false)
      (k : epoch_refreshed (record_of t i).runtime now (record_of t i).parameters ≡ value y) where
    abbrev stored : List ThreadRecord
    stored = changed t i (with_runtime y)

    own_now : bare_at stored i ≡ refreshed_to now (bare_at t i)
    unfolding bare_at
    own_now =
        rw (record_same t i (with_runtime y) (queued_inside S i e))
        (bare_refreshed (with_runtime y (record_of t i)) (refreshed_by now (record_of t i) y k))

    other_bare : (j : ℕ) → j ≢ i → bare_at stored j ≡ bare_at t j
    unfolding bare_at
    other_bare j d = ap (with_links empty_links) (record_other t i (with_runtime y) j d)

    other_records : (j : ℕ) → queued j ≡ false → record_at stored j ≡ record_at t j
    unfolding record_at
    other_records j f = reading_other t i (with_runtime y) (λ (r : ThreadRecord). Ok r) (Err damage) j
        (λ z. let w : true ≡ false = sym e ∙ ap queued (sym z) ∙ f in never cc)

    headed_budget : Headed S cpu now i
    headed_budget = record {
      table = stored;
      is = head_by (with_runtime y (record_of t i)) stored
          (refresh_budget now (record_of t i) (S.threads i e).judged t i p y g k)
          (sym (refreshed_by now (record_of t i) y k));
      passed = record {
        sound = refresh_sound S i y e b h;
        places = refresh_place S i y e b h;
        len = length_changed t i (with_runtime y);
        fresher = λ j. same_or_not j i
            (λ z. subst (λ n. Fresher now (bare_at t n) (bare_at stored n)) (sym z) (fresh own_now))
            (λ z. kept (other_bare j z));
        keys = λ j. rw (after_set_runtime t i y) at
            (key_set_runtime t i y j (budget_key_kept (record_of t i).parameters y (record_of t i).runtime
            (record_of t i).ready_turn b));
        others = other_records;
      };
      own = own_now;
    }

  headed_of : Refreshes now (record_of t i) → Headed S cpu now i
  headed_of (plain p n h) = headed_plain n h
  headed_of (budgeted x p b f g h k) =
      headed_budget (runtime.Budget (budget.refreshed x now p)) p b g
      (budget_judged now (record_of t i) (S.threads i e).judged (budget.refreshed x now p) p b g h) k

  -- A queued thread as a head, on its processor.
  pub headed : Headed S cpu now i
  headed = headed_of (refreshes now (record_of t i) (S.threads i e).judged)
