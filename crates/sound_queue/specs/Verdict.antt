-- What the checks before a call's work come to on a queue that is not halted: a refusal with nothing changed, or a
-- judged record that is not Idle.
use Rattle.std.specs.Prelude.{◌≡◌, refl, Bool, true, false, ◌≢◌, List, ℕ, suc, ◌≤◌, ◌<◌, length}
use Rattle.std.proofs.Common.{sym, ◌∙◌, arith}
use Rattle.std.proofs.Math.Decide.{dec_le}
use borrow.Author.Tests.{le-ltb}
use Rattle.refusal.specs.Answer.{refused, bad_state, no_thread, bad_record}
use Rattle.refusal.specs.Cases.{never, choose, if_less}
use Rattle.policy.specs.declared.SchedulingPolicy.{SchedulingPolicy}
use Rattle.policy.specs.declared.SchedulingPolicy.TheVariants as policy
use Rattle.thread.specs.declared.ThreadRecord.{ThreadRecord}
use Rattle.thread.specs.Judgement.{is_bad_record}
use Rattle.thread.specs.Filing.{on_index}
use Rattle.rows.specs.Table.{Out, out, record_of, max_records}
use Rattle.rows.specs.TableCases.{on_record}
use Rattle.rows.specs.TableLaws.{record_within, record_beyond}
use Rattle.queue.specs.RunQueue.{CpuRunQueue}
use Rattle.queue.specs.Queue.{Step, step, judged}
use Rattle.sound_queue.specs.PartsLaws.{idle_filing}

pub data Verdict (t : List ThreadRecord) (q : CpuRunQueue) (i : ℕ) : Type 0 where
  refuses : (n : ℕ) → ((f : ThreadRecord → ℕ → Out (Step (Unit {0}))) → judged t q i f ≡ out (step (refused n) q) t)
      → Verdict t q i
  passes : i < length t → is_bad_record (record_of t i) ≡ false → (record_of t i).parameters.policy ≢ policy.Idle
      → Verdict t q i

module _ (t : List ThreadRecord) (q : CpuRunQueue) (i : ℕ) (n : length t ≤ max_records) (h : q.halted ≡ false)
    (f : ThreadRecord → ℕ → Out (Step (Unit {0}))) where
  no_thread_lem : length t ≤ i → judged t q i f ≡ out (step (refused no_thread) q) t
  unfolding judged if_less choose on_record
  no_thread_lem l = rw (le-ltb max_records (length t) n, h, record_beyond t i l)

  bad_record_lem : i < length t → is_bad_record (record_of t i) ≡ true
      → judged t q i f ≡ out (step (refused bad_record) q) t
  unfolding judged if_less choose on_record
  bad_record_lem l b = rw (le-ltb max_records (length t) n, h, record_within t i l, b)

  is_idle : i < length t → is_bad_record (record_of t i) ≡ false → (record_of t i).parameters.policy ≡ policy.Idle
      → judged t q i f ≡ out (step (refused bad_state) q) t
  unfolding judged if_less choose on_record on_index
  is_idle l b e =
      rw (
        le-ltb max_records (length t) n,
        h,
        record_within t i l,
        b,
        idle_filing (record_of t i).parameters (record_of t i).runtime e,
      )

not_idle_by : (x y : SchedulingPolicy) → x ≡ y → y ≢ policy.Idle → x ≢ policy.Idle
not_idle_by x y e h z = h (sym e ∙ z)

pub verdict : (t : List ThreadRecord) (q : CpuRunQueue) (i : ℕ) → length t ≤ max_records → q.halted ≡ false
    → Verdict t q i
verdict t q i n h = inside (dec_le (suc i) (length t))
  where
    policies : i < length t → is_bad_record (record_of t i) ≡ false → (p : SchedulingPolicy)
        → (record_of t i).parameters.policy ≡ p → Verdict t q i
    policies l b (policy.Fifo priority) e =
        passes l b (not_idle_by (record_of t i).parameters.policy (policy.Fifo priority) e (λ z. never cc))
    policies l b policy.Fair e =
        passes l b (not_idle_by (record_of t i).parameters.policy policy.Fair e (λ z. never cc))
    policies l b policy.Budget e =
        passes l b (not_idle_by (record_of t i).parameters.policy policy.Budget e (λ z. never cc))
    policies l b policy.Idle e = refuses bad_state (λ f. is_idle t q i n h f l b e)

    judgement : i < length t → (x : Bool) → is_bad_record (record_of t i) ≡ x → Verdict t q i
    judgement l true b = refuses bad_record (λ f. bad_record_lem t q i n h f l b)
    judgement l false b = policies l b (record_of t i).parameters.policy refl

    inside : Dec (suc i ≤ length t) → Verdict t q i
    inside (yes l) = judgement l (is_bad_record (record_of t i)) refl
    inside (no l) = refuses no_thread (λ f. no_thread_lem t q i n h f (omega arith))
