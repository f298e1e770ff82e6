-- A sound queue, over queue, table and the set of queued threads; and what a call on it is to leave. A thread is queued
-- from its accepted enqueue to its accepted removal. Of a record that is not queued nothing is asked: neither its links
-- nor its membership.
use Rattle.std.specs.Prelude.{◌≡◌, Bool, true, false, ◌&&◌, ◌≢◌, List, ℕ, ◌<◌, length, ltb, eqb, Some}
use Rattle.refusal.specs.Answer.{value, refused}
use Rattle.refusal.specs.Cases.{choose}
use Rattle.policy.specs.declared.SchedulingPolicy.{SchedulingPolicy}
use Rattle.policy.specs.declared.SchedulingPolicy.TheVariants as policy
use Rattle.thread.specs.declared.CpuIndex.{CpuIndex}
use Rattle.thread.specs.declared.QueueMembership.TheVariants as membership
use Rattle.thread.specs.declared.ThreadRecord.{ThreadRecord}
use Rattle.thread.specs.Judgement.{is_bad_record}
use Rattle.thread.specs.Filing.{index_for, on_index}
use Rattle.rows.specs.Table.{Out, out, record_of, record_at}
use Rattle.sound_index.specs.Holds.{besides_links}
use Rattle.sound_lists.specs.Members.{without}
use Rattle.sound_lists.specs.Sound.{without_lists}
use Rattle.queue.specs.RunQueue.{CpuRunQueue, tree_count}
use Rattle.queue.specs.Queue.{Step, step, is_fifo, is_budget, partner}
use Rattle.sound_queue.specs.Forest.{Forest, placed}
use Rattle.sound_queue.specs.Lists.{list_at, list_for, row_of, Lists, list_count, joined, relisted}
use Rattle.sound_queue.specs.Count.{count}

-- The tree in which a record may stand: that of its filing; of a budget also the partner, since its time may have run
-- out or come back while it was queued.
pub data Filed (r : ThreadRecord) (k : ℕ) : Type 0 where
  by_filing : index_for r.parameters r.runtime ≡ Some k → Filed r k
  in_partner : (f : ℕ) → is_budget r.parameters.policy ≡ true → index_for r.parameters r.runtime ≡ Some f
      → partner f ≡ k → Filed r k

-- What is asked of the record of a queued thread that stands in tree k. Its list is one of the 257: a FIFO priority is
-- below 256. It is assigned to the processor of its list.
pub record Queued (cpus : ℕ → CpuIndex) (r : ThreadRecord) (k : ℕ) : Type 0 where
  pub judged : is_bad_record r ≡ false
  pub assigned : r.cpu.0 ≡ (cpus (list_for r.parameters.policy)).0
  pub listed : list_for r.parameters.policy < list_count
  pub filed : Filed r k

-- Queued, and of such a policy.
unfoldable pub queued_of : (SchedulingPolicy → Bool) → (ℕ → Bool) → List ThreadRecord → ℕ → Bool
queued_of p queued t j = queued j && p (record_of t j).parameters.policy

-- The twelve trees together and the lists together hold exactly the queued threads, each in one place and filed by its
-- record; trees are in key order and balanced with right heights, lists are linked both ways, lengths and budget count
-- are true, and the queue is not halted. The threads of one list are of one processor; those of different lists need
-- not be (SPECIFICATION 12.3).
pub record Sound (queued : ℕ → Bool) (q : CpuRunQueue) (t : List ThreadRecord) : Type 0 where
  pub cpus : ℕ → CpuIndex
  pub place : ℕ → ℕ
  pub forest : Forest q.indices t place
  pub stands : (j : ℕ) → ltb (place j) tree_count ≡ queued j
  pub threads : (j : ℕ) → queued j ≡ true → Queued cpus (record_of t j) (place j)
  pub priorities : length q.realtime ≡ 256
  pub lists : Lists (list_at q) cpus t (row_of queued t)
  pub total : q.realtime_len ≡ count (length t) (queued_of is_fifo queued t)
  pub budgets : q.budget_threads ≡ count (length t) (queued_of is_budget queued t)
  pub running : q.halted ≡ false

-- The set of no thread.
abbrev pub nobody : ℕ → Bool
nobody j = false

-- Every queued thread is of this processor.
abbrev pub OneProcessor : CpuIndex → (ℕ → Bool) → List ThreadRecord → Type 0
OneProcessor cpu queued t = (j : ℕ) → queued j ≡ true → (record_of t j).cpu.0 ≡ cpu.0

-- The queued threads and this one.
unfoldable pub including : ℕ → (ℕ → Bool) → ℕ → Bool
including i queued j = choose (eqb j i) true (queued j)

-- The queued threads but this one.
unfoldable pub excluding : ℕ → (ℕ → Bool) → ℕ → Bool
excluding i queued j = choose (eqb j i) false (queued j)

-- The table but for tree links and list links: all else of every record.
abbrev pub without_links : List ThreadRecord → List ThreadRecord
without_links t = besides_links (without_lists t)

-- The tree of a record's filing; `tree_count` where it has none.
unfoldable pub tree_for : ThreadRecord → ℕ
tree_for r = on_index (index_for r.parameters r.runtime) tree_count (λ k. k)

-- What an accepted call does: to which thread; who is queued after it; the tree in which the thread then stands,
-- `tree_count` for none; and what becomes of the list of its policy.
pub record Effect : Type 0 where
  pub thread : ℕ
  pub after : (ℕ → Bool) → ℕ → Bool
  pub tree : ℕ
  pub list : List ℕ → List ℕ

-- An enqueue puts thread i into the tree of its filing and to the named end of its list.
abbrev pub enqueuing : Bool → List ThreadRecord → ℕ → Effect
enqueuing front t i =
    record { thread = i; after = including i; tree = tree_for (record_of t i); list = joined front i }

-- A removal takes it out of the tree in which it stood, and out of its list, where the others keep their order.
abbrev pub removing : ℕ → Effect
removing i = record { thread = i; after = excluding i; tree = tree_count; list = without i }

-- From a sound queue a call left queue r and table s: the queue is sound, and has that effect on it and no other. Each
-- of the twelve trees and each of the 257 lists holds what it held, but for the one thread (`kept_trees` and
-- `kept_lists` in proofs/Calls.antt say so of `contains` and of reading the list). Of every record only links changed,
-- and a record that is neither queued nor the thread's did not change at all.
pub record Kept {queued : ℕ → Bool} {q : CpuRunQueue} {t : List ThreadRecord}
    (S : Sound queued q t) (e : Effect) (r : CpuRunQueue) (s : List ThreadRecord) : Type 0 where
  pub sound : Sound (e.after queued) r s
  pub places : (j : ℕ) → sound.place j ≡ placed e.thread e.tree S.place j
  pub members : (n : ℕ) → sound.lists.members n
      ≡ relisted (list_for (record_of t e.thread).parameters.policy) e.list S.lists.members n
  pub besides : without_links s ≡ without_links t
  pub others : (j : ℕ) → queued j ≡ false → j ≢ e.thread → record_at s j ≡ record_at t j

-- The call was accepted, and that is what it left.
pub record Accepted {queued : ℕ → Bool} {q : CpuRunQueue} {t : List ThreadRecord}
    (S : Sound queued q t) (e : Effect) (o : Out (Step (Unit {0}))) : Type 0 where
  pub queue : CpuRunQueue
  pub table : List ThreadRecord
  pub is : o ≡ out (step (value tt) queue) table
  pub kept : Kept S e queue table

-- Refused with queue and table as they were, or accepted: what every call on a sound queue comes to.
pub data Fine {queued : ℕ → Bool} {q : CpuRunQueue} {t : List ThreadRecord}
    (S : Sound queued q t) (e : Effect) (o : Out (Step (Unit {0}))) : Type 0 where
  unchanged : (n : ℕ) → o ≡ out (step (refused n) q) t → Fine S e o
  made : Accepted S e o → Fine S e o

-- A FIFO priority is a byte, as in every record of the code; the definitions' numbers have no bound of their own.
abbrev pub PriorityFits : SchedulingPolicy → Type 0
PriorityFits (policy.Fifo priority) = priority.0 < 256
PriorityFits policy.Fair = Unit {0}
PriorityFits policy.Budget = Unit {0}
PriorityFits policy.Idle = Unit {0}

-- A thread whose enqueue on a processor no rule of document 01 refuses: its list, too, has threads of that processor
-- alone.
pub record MayEnqueue (cpu : CpuIndex) (queued : ℕ → Bool) (t : List ThreadRecord) (i : ℕ) : Type 0 where
  pub below : i < length t
  pub judged : is_bad_record (record_of t i) ≡ false
  pub not_idle : (record_of t i).parameters.policy ≢ policy.Idle
  pub unqueued : (record_of t i).queue_links.membership ≡ membership.None
  pub assigned : (record_of t i).cpu.0 ≡ cpu.0
  pub fits : PriorityFits (record_of t i).parameters.policy
  pub ours : (j : ℕ) → queued j ≡ true
      → list_for (record_of t j).parameters.policy ≡ list_for (record_of t i).parameters.policy
      → (record_of t j).cpu.0 ≡ cpu.0
