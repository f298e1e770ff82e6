-- The words of demand 3, after document 01, "Keys and filing".
use Rattle.std.specs.Prelude.{ℕ, zero, suc, ◌+◌, ◌/◌, ◌≤◌, ◌<◌, ◌≡◌, Bool, true, false, not, ◌≢◌, List, [], ◌∷◌, length}
use Rattle.std.specs.Prelude.{Option, Some, None}
use Rattle.refusal.specs.Answer.{value, refused}
use Rattle.refusal.specs.Cases.{choose}
use Rattle.std.specs.declared.cmp.Ordering.TheVariants.{Less, Equal}
use Rattle.policy.specs.declared.FairBackend.{FairBackend}
use Rattle.algorithms.specs.Runtime.{epoch_refreshed}
use Rattle.arbitration.specs.declared.Candidate.{Candidate}
use Rattle.arbitration.specs.declared.CpuWindow.{CpuWindow}
use Rattle.arbitration.specs.declared.Demand.{Demand}
use Rattle.dispatch_keys.specs.declared.DispatchKey.{DispatchKey}
use Rattle.arbitration.specs.declared.DispatchMode.{DispatchMode}
use Rattle.window_config.specs.Config.{sound_config, admitted}
use Rattle.arbitration.specs.Window.{refreshed}
use Rattle.arbitration.specs.Key.{compare_keys, key_of}
use Rattle.thread.specs.declared.CpuIndex.{CpuIndex}
use Rattle.thread.specs.declared.ThreadRecord.{ThreadRecord}
use Rattle.thread.specs.Filing.{budget_available_of, role_index, budget_ready}
use Rattle.thread.specs.Records.{with_runtime}
use Rattle.rows.specs.Table.{Out, out, record_of, record_at, max_records}
use Rattle.lists.specs.Lists.{on_answer}
use Rattle.ready_index.specs.Index.{contains}
use Rattle.queue.specs.RunQueue.{CpuRunQueue}
use Rattle.queue.specs.Queue.{Step, step, new_queue, root_of, is_budget, on_contained, enqueue_call, remove_call}
use Rattle.demands.specs.declared.Gathered.{Gathered}
use Rattle.selection.specs.declared.Selection.{Selection}
use Rattle.demands.specs.Demands.{candidate_of, gathered, of_current}
use Rattle.renewal.specs.Renewal.{is_epoch}
use Rattle.selection.specs.Peek.{Peeked, peeked, peek_next}
use Rattle.sound_queue.specs.Sound.{nobody, including, excluding, PriorityFits}
use Rattle.selection.specs.declared.ReadyThread.{ReadyThread}

-- "Refreshed to now": a record put through `refresh` at that reading if it has a budget.
unfoldable pub refreshed_to : ℕ → ThreadRecord → ThreadRecord
refreshed_to now r = on_answer (epoch_refreshed r.runtime now r.parameters) (λ n. r) (λ x. with_runtime x r)

-- A thread as arbitration sees it, refreshed to now.
unfoldable pub candidate_now : List ThreadRecord → ℕ → ℕ → Candidate
candidate_now t now j = candidate_of (refreshed_to now (record_of t j))

-- The source's demand, and the lowest fair pass, of the current thread, if given, and of every queued thread below n,
-- refreshed to now.
unfoldable pub gathered_below : ℕ → (ℕ → Bool) → List ThreadRecord → ℕ → Option Candidate → Gathered
gathered_below zero queued t now current = of_current current
gathered_below (suc n) queued t now current =
    choose (queued n) (gathered (gathered_below n queued t now current) (candidate_now t now n))
    (gathered_below n queued t now current)

-- Of every queued thread.
abbrev pub gathered_now : (ℕ → Bool) → List ThreadRecord → ℕ → Option Candidate → Gathered
gathered_now queued t now current = gathered_below (length t) queued t now current

-- What the source gives the refreshed record under a demand and the window refreshed to now: a key with its mode, or
-- none.
unfoldable pub key_now : List ThreadRecord → CpuWindow → ℕ → Demand → ℕ → Option (DispatchKey × DispatchMode)
key_now t w now d j = key_of (refreshed w now) now (candidate_now t now j) d

-- A queued budget thread is filed as having time left if it stands in such a tree, or in an exhausted one while the
-- queue's epoch is not e (SPECIFICATION 13.1).
unfoldable pub filed_ready : CpuRunQueue → List ThreadRecord → ℕ → ℕ → Bool
filed_ready q t e j =
    on_contained (contains t (root_of q (budget_ready + role_index (record_of t j).parameters.role)) j) true
    (not (is_epoch q.budget_epoch e)) (not (is_epoch q.budget_epoch e))

-- The premises on a selection: a sound window that admits every queued thread, one fair backend among them, and budget
-- threads filed by whether they have time left (SPECIFICATION 13.1).
pub record Premises (queued : ℕ → Bool) (q : CpuRunQueue) (t : List ThreadRecord) (now : ℕ)
    (w : CpuWindow) : Type 0 where
  pub window : sound_config w.config ≡ true
  pub backend : FairBackend
  pub admits : (j : ℕ) → queued j ≡ true → admitted w.config (record_of t j).parameters backend ≡ true
  pub filing : (j : ℕ) → queued j ≡ true → is_budget (record_of t j).parameters.policy ≡ true
      → budget_available_of (refreshed_to now (record_of t j)).runtime ≡ filed_ready q t (now / w.config.period_ns) j

-- Thread j with key l comes later than thread i with key k: a greater key, or an equal one and a higher number.
pub data Later (k : DispatchKey) (i : ℕ) (l : DispatchKey) (j : ℕ) : Type 0 where
  greater_key : compare_keys k l ≡ Less → Later k i l j
  higher_number : compare_keys k l ≡ Equal → i < j → Later k i l j

-- None: no queued thread has a key. A thread: it is queued, has that key, and every other queued thread that has one
-- comes later.
abbrev pub Names : (ℕ → Bool) → List ThreadRecord → CpuWindow → ℕ → Demand → Option ReadyThread → Type 0
Names queued t w now d None = (j : ℕ) → queued j ≡ true → key_now t w now d j ≡ None
Names queued t w now d (Some r) = record {
  is_queued : queued r.id.0 ≡ true;
  its_policy : r.policy ≡ (record_of t r.id.0).parameters.policy;
  its_key : (m : DispatchMode) × (key_now t w now d r.id.0 ≡ Some (r.key, m));
  least : (j : ℕ) (k : DispatchKey) (m : DispatchMode) → queued j ≡ true → j ≢ r.id.0
      → key_now t w now d j ≡ Some (k, m) → Later r.key r.id.0 k j;
}

-- A selection is answered, not refused: with the demand of all queued threads and the current one, their lowest fair
-- pass, and of all queued threads the one with the least key under that demand. The window is refreshed to now, unless
-- nobody is queued (SPECIFICATION 13.2).
pub record Answered (queued : ℕ → Bool) (t : List ThreadRecord) (now : ℕ) (w : CpuWindow) (current : Option Candidate)
    (o : Out (Peeked CpuRunQueue)) : Type 0 where
  pub selection : Selection
  pub window : CpuWindow
  pub queue : CpuRunQueue
  pub table : List ThreadRecord
  pub is : o ≡ out (peeked (value selection) window queue) table
  pub demand : selection.demand ≡ (gathered_now queued t now current).demand
  pub lowest : selection.fair_min_pass ≡ (gathered_now queued t now current).fair_min_pass
  pub names : Names queued t w now (gathered_now queued t now current).demand selection.ready
  pub window_fresh : (j : ℕ) → queued j ≡ true → window ≡ refreshed w now
  pub window_kept : ((j : ℕ) → queued j ≡ false) → window ≡ w

-- A queue call for one processor, or a change of records beside the queue. Each selection brings its own reading,
-- window and, if any, current thread.
pub data Call : Type 0 where
  enqueue_at : Bool → ℕ → Call
  remove_at : ℕ → Call
  select_at : ℕ → CpuWindow → Option Candidate → Call
  change_to : List ThreadRecord → Call

-- Queue, table, and who is queued: from its accepted enqueue to its accepted removal (SPECIFICATION 12.1).
pub record State : Type 0 where
  pub queue : CpuRunQueue
  pub table : List ThreadRecord
  pub queued : ℕ → Bool

-- Accepted, the call leaves `after` queued; refused, those that were.
abbrev pub left_by : Out (Step (Unit {0})) → (ℕ → Bool) → (ℕ → Bool) → State
left_by (out (step (value u) q) t) queued after = record { queue = q; table = t; queued = after }
left_by (out (step (refused n) q) t) queued after = record { queue = q; table = t; queued = queued }

-- A selection changes nobody's being queued.
abbrev pub left_by_selection : Out (Peeked CpuRunQueue) → (ℕ → Bool) → State
left_by_selection (out (peeked a w q) t) queued = record { queue = q; table = t; queued = queued }

-- What a call, accepted or refused, or a change leaves.
unfoldable pub after : CpuIndex → Call → State → State
after cpu (enqueue_at front i) s =
    left_by (enqueue_call front s.table s.queue i cpu) s.queued (including i s.queued)
after cpu (remove_at i) s = left_by (remove_call s.table s.queue i cpu) s.queued (excluding i s.queued)
after cpu (select_at now w current) s = left_by_selection (peek_next s.table s.queue cpu now w current) s.queued
after cpu (change_to t) s = record { queue = s.queue; table = t; queued = s.queued }

-- Every FIFO priority of a table is a byte, as in every table that rows stand for (`rows_fit` of crate sound_queue).
abbrev pub Bytes : List ThreadRecord → Type 0
Bytes t = (i : ℕ) → i < length t → PriorityFits (record_of t i).parameters.policy

-- Any call may be made. Records change only while they are not queued, then in any way: their membership and links too;
-- and records may be added or dropped, up to 4,096 in all. A queued thread's record is in both tables.
abbrev pub Allowed : Call → State → Type 0
Allowed (enqueue_at front i) s = Unit {0}
Allowed (remove_at i) s = Unit {0}
Allowed (select_at now w current) s = Unit {0}
Allowed (change_to t) s =
    (length t ≤ max_records) × ((j : ℕ) → s.queued j ≡ true → record_at t j ≡ record_at s.table j) × Bytes t

-- One call after the other, each on what the one before left.
unfoldable pub after_all : CpuIndex → List Call → State → State
after_all cpu [] s = s
after_all cpu (c ∷ l) s = after_all cpu l (after cpu c s)

abbrev pub AllAllowed : CpuIndex → List Call → State → Type 0
AllAllowed cpu [] s = Unit {0}
AllAllowed cpu (c ∷ l) s = record { this : Allowed c s; rest : AllAllowed cpu l (after cpu c s) }

-- The call is accepted; a change always is.
abbrev pub Accepted : CpuIndex → Call → State → Type 0
Accepted cpu (enqueue_at front i) s =
    (q : CpuRunQueue) × (t : List ThreadRecord)
    × (enqueue_call front s.table s.queue i cpu ≡ out (step (value tt) q) t)
Accepted cpu (remove_at i) s =
    (q : CpuRunQueue) × (t : List ThreadRecord) × (remove_call s.table s.queue i cpu ≡ out (step (value tt) q) t)
Accepted cpu (select_at now w current) s =
    (a : Selection) × (v : CpuWindow) × (q : CpuRunQueue) × (t : List ThreadRecord)
    × (peek_next s.table s.queue cpu now w current ≡ out (peeked (value a) v q) t)
Accepted cpu (change_to t) s = Unit {0}

-- Accepted, or refused with queue and records as they were.
pub data Stands (cpu : CpuIndex) (c : Call) (s : State) : Type 0 where
  accepted : Accepted cpu c s → Stands cpu c s
  unchanged : after cpu c s ≡ s → Stands cpu c s

-- Each call of a list does.
abbrev pub AllStand : CpuIndex → List Call → State → Type 0
AllStand cpu [] s = Unit {0}
AllStand cpu (c ∷ l) s = record { this : Stands cpu c s; rest : AllStand cpu l (after cpu c s) }

-- A fresh queue on any table: nobody is queued, whatever the records say.
abbrev pub fresh : List ThreadRecord → State
fresh t = record { queue = new_queue; table = t; queued = nobody }

-- What is claimed of a selection in a state, and its premises there.
abbrev pub PremisesIn : State → ℕ → CpuWindow → Type 0
PremisesIn s now w = Premises s.queued s.queue s.table now w

abbrev pub AnsweredIn : CpuIndex → State → ℕ → CpuWindow → Option Candidate → Type 0
AnsweredIn cpu s now w current =
    Answered s.queued s.table now w current (peek_next s.table s.queue cpu now w current)
