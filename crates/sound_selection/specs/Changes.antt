-- What a selection may do to a thread, and the head of a tree.
use Rattle.std.specs.Prelude.{ℕ, ◌+◌, ◌≤◌, ◌<◌, ◌≡◌, Bool, false, ◌≢◌, List, length, Option, Some, None}
use Rattle.refusal.specs.Answer.{value, refused}
use Rattle.policy.specs.declared.SchedulingPolicy.TheVariants as policy
use Rattle.policy.specs.declared.ThreadPriority.{ThreadPriority}
use Rattle.thread.specs.declared.ThreadRecord.{ThreadRecord}
use Rattle.thread.specs.Filing.{role_index, fair_index, budget_exhausted}
use Rattle.thread.specs.Membership.{empty_links}
use Rattle.thread.specs.Records.{with_links}
use Rattle.arbitration.specs.declared.CpuWindow.{CpuWindow}
use Rattle.rows.specs.Table.{Out, out, record_of, record_at, key_at}
use Rattle.selection.specs.declared.Selection.{Selection}
use Rattle.selection.specs.Peek.{Peeked, peeked}
use Rattle.sound_index.specs.Holds.{Precedes}
use Rattle.queue.specs.RunQueue.{CpuRunQueue, tree_count}
use Rattle.sound_queue.specs.Sound.{Sound}
use Rattle.sound_queue.specs.Runtimes.{BudgetTree}
use Rattle.sound_selection.specs.Claim.{refreshed_to}

-- A record but for its tree links.
unfoldable pub bare_at : List ThreadRecord → ℕ → ThreadRecord
bare_at t j = with_links empty_links (record_of t j)

-- As it was, or refreshed to now.
pub data Fresher (now : ℕ) (a b : ThreadRecord) : Type 0 where
  kept : b ≡ a → Fresher now a b
  fresh : b ≡ refreshed_to now a → Fresher now a b

-- A change of period: a thread stays where and as it is; or, out of an exhausted tree, it goes to the tree of those
-- with time left and is refreshed.
pub data Shift (now p : ℕ) (a : ThreadRecord) (p' : ℕ) (b : ThreadRecord) : Type 0 where
  stays : p' ≡ p → b ≡ a → Shift now p a p' b
  shifts : budget_exhausted ≤ p → p < tree_count → p' + 3 ≡ p → b ≡ refreshed_to now a → Shift now p a p' b

-- The head of tree k: none, and nobody stands there; or a thread that stands there and precedes every other that does.
pub data Head (t : List ThreadRecord) (place : ℕ → ℕ) (k : ℕ) : Option ℕ → Type 0 where
  nobody_there : ((j : ℕ) → place j ≢ k) → Head t place k None
  first_of_list : (i : ℕ) → place i ≡ k → ((j : ℕ) → place j ≡ k → j ≢ i → Precedes t i j)
      → Head t place k (Some i)

-- What the tree says of a queued record: policy and role, and of a budget one of the two trees of its role.
pub data Standing (r : ThreadRecord) (k : ℕ) : Type 0 where
  in_fifo : (p : ThreadPriority) → r.parameters.policy ≡ policy.Fifo p → k ≡ role_index r.parameters.role
      → Standing r k
  in_fair : r.parameters.policy ≡ policy.Fair → k ≡ fair_index + role_index r.parameters.role → Standing r k
  in_budget : r.parameters.policy ≡ policy.Budget → BudgetTree (role_index r.parameters.role) k → Standing r k

-- Queue r has all of queue q but its trees.
pub record Beside (q r : CpuRunQueue) : Type 0 where
  pub realtime : r.realtime ≡ q.realtime
  pub total : r.realtime_len ≡ q.realtime_len
  pub fair : r.fair ≡ q.fair
  pub epoch : r.budget_epoch ≡ q.budget_epoch
  pub budgets : r.budget_threads ≡ q.budget_threads
  pub halted : r.halted ≡ q.halted

-- From a sound queue to a sound queue with the same threads queued: threads stay or shift, and a record that is not
-- queued does not change at all.
pub record Renewed {queued : ℕ → Bool} {q : CpuRunQueue} {t : List ThreadRecord}
    (S : Sound queued q t) (now : ℕ) (r : CpuRunQueue) (s : List ThreadRecord) : Type 0 where
  pub sound : Sound queued r s
  pub beside : Beside q r
  pub len : length s ≡ length t
  pub shift : (j : ℕ) → Shift now (S.place j) (bare_at t j) (sound.place j) (bare_at s j)
  pub others : (j : ℕ) → queued j ≡ false → record_at s j ≡ record_at t j

-- From a sound queue to a sound queue with the same roots and every thread where it stood: records are kept or
-- refreshed, and a record that is not queued does not change at all.
pub record Passed {queued : ℕ → Bool} {q : CpuRunQueue} {t : List ThreadRecord}
    (S : Sound queued q t) (now : ℕ) (s : List ThreadRecord) : Type 0 where
  pub sound : Sound queued q s
  pub places : (j : ℕ) → sound.place j ≡ S.place j
  pub len : length s ≡ length t
  pub fresher : (j : ℕ) → Fresher now (bare_at t j) (bare_at s j)
  pub keys : (j : ℕ) → key_at s j ≡ key_at t j
  pub others : (j : ℕ) → queued j ≡ false → record_at s j ≡ record_at t j

-- What a selection leaves of a sound queue: it is sound with the same threads queued, every record is kept or refreshed
-- but for its tree links, and a record that is not queued does not change at all.
pub record Left (queued : ℕ → Bool) (t : List ThreadRecord) (now : ℕ) (r : CpuRunQueue)
    (s : List ThreadRecord) : Type 0 where
  pub sound : Sound queued r s
  pub len : length s ≡ length t
  pub fresher : (j : ℕ) → Fresher now (bare_at t j) (bare_at s j)
  pub others : (j : ℕ) → queued j ≡ false → record_at s j ≡ record_at t j

-- Refused with queue, window and table as they were, or answered: what every selection comes to on a sound queue whose
-- threads are all of the processor that it names.
pub data FineSelection (queued : ℕ → Bool) (q : CpuRunQueue) (t : List ThreadRecord) (now : ℕ)
    (w : CpuWindow) (o : Out (Peeked CpuRunQueue)) : Type 0 where
  unchanged : (n : ℕ) → o ≡ out (peeked (refused n) w q) t → FineSelection queued q t now w o
  answered : (a : Selection) (v : CpuWindow) (r : CpuRunQueue) (s : List ThreadRecord)
      → o ≡ out (peeked (value a) v r) s → Left queued t now r s → FineSelection queued q t now w o
