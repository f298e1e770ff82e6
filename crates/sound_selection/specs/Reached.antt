-- Document 01's sound queues, by the calls that led to them.
use Rattle.std.specs.Prelude.{◌≡◌, Bool, true, List, ℕ, ◌≤◌, length, Option}
use Rattle.refusal.specs.Answer.{value}
use Rattle.arbitration.specs.declared.CpuWindow.{CpuWindow}
use Rattle.thread.specs.declared.CpuIndex.{CpuIndex}
use Rattle.thread.specs.declared.ThreadRecord.{ThreadRecord}
use Rattle.rows.specs.Table.{out, record_of, record_at, max_records}
use Rattle.queue.specs.RunQueue.{CpuRunQueue}
use Rattle.queue.specs.Queue.{step, new_queue, enqueue_call, remove_call}
use Rattle.selection.specs.declared.Selection.{Selection}
use Rattle.selection.specs.Peek.{peeked, peek_next}
use Rattle.sound_queue.specs.Sound.{nobody, including, excluding, PriorityFits}
use Rattle.arbitration.specs.declared.Candidate.{Candidate}

-- From a new queue over any table of up to 4,096 records: accepted enqueues, removals and selections, each for any
-- processor, a selection with any reading, window and current thread; between them changes of any kind to records that
-- are not queued, and records added or dropped behind the queued ones. The set is of those whose enqueue was accepted
-- and who were not removed since (SPECIFICATION 12.2).
pub data Reached : (ℕ → Bool) → CpuRunQueue → List ThreadRecord → Type 0 where
  new : (t : List ThreadRecord) → length t ≤ max_records → Reached nobody new_queue t
  enqueued : (cpu : CpuIndex) (queued : ℕ → Bool) (q r : CpuRunQueue) (t s : List ThreadRecord) (front : Bool) (i : ℕ)
      → Reached queued q t → PriorityFits (record_of t i).parameters.policy
      → enqueue_call front t q i cpu ≡ out (step (value tt) r) s → Reached (including i queued) r s
  removed : (cpu : CpuIndex) (queued : ℕ → Bool) (q r : CpuRunQueue) (t s : List ThreadRecord) (i : ℕ)
      → Reached queued q t → remove_call t q i cpu ≡ out (step (value tt) r) s → Reached (excluding i queued) r s
  selected : (cpu : CpuIndex) (queued : ℕ → Bool) (q r : CpuRunQueue) (t s : List ThreadRecord) (now : ℕ)
      (w v : CpuWindow) (current : Option Candidate) (a : Selection) → Reached queued q t
      → peek_next t q cpu now w current ≡ out (peeked (value a) v r) s → Reached queued r s
  changed : (queued : ℕ → Bool) (q : CpuRunQueue) (t s : List ThreadRecord) → Reached queued q t
      → length s ≤ max_records → ((j : ℕ) → queued j ≡ true → record_at s j ≡ record_at t j) → Reached queued q s
