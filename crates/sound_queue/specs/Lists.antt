-- The 257 lists of a queue in one table: list 0 is the fair one, list 1 + p that of priority p; how one reads a list,
-- and what a call makes of it.
use Rattle.std.specs.Prelude.{◌≡◌, Bool, List, [], ◌∷◌, ◌++◌, ℕ, zero, suc, ◌<◌, length, get_or, eqb, Option}
use Rattle.refusal.specs.Cases.{choose}
use Rattle.policy.specs.declared.SchedulingPolicy.{SchedulingPolicy}
use Rattle.policy.specs.PolicyCases.{on_policy}
use Rattle.thread.specs.declared.CpuIndex.{CpuIndex}
use Rattle.thread.specs.declared.QueueMembership.{QueueMembership}
use Rattle.thread.specs.declared.QueueMembership.TheVariants as membership
use Rattle.thread.specs.declared.ThreadQueue.{ThreadQueue}
use Rattle.thread.specs.declared.ThreadRecord.{ThreadRecord}
use Rattle.thread.specs.Membership.{empty_queue, on_link}
use Rattle.rows.specs.Table.{record_of, queue_links_at}
use Rattle.rows.specs.TableCases.{on_queue_links}
use Rattle.sound_lists.specs.Members.{has}
use Rattle.sound_lists.specs.Sound.{HoldsList}
use Rattle.queue.specs.RunQueue.{CpuRunQueue}

-- A list of a queue.
unfoldable pub list_at : CpuRunQueue → ℕ → ThreadQueue
list_at q zero = q.fair
list_at q (suc priority) = get_or q.realtime priority empty_queue

-- The membership of a list's threads.
unfoldable pub membership_at : CpuIndex → ℕ → QueueMembership
membership_at cpu zero = membership.ReadyFair cpu
membership_at cpu (suc priority) = membership.ReadyRealTime cpu priority

-- How many lists there are; no list has this number.
abbrev pub list_count : ℕ
list_count = 257

-- The list of a policy: FIFO threads by their priority, Fair and Budget threads in one; Idle in none.
unfoldable pub list_for : SchedulingPolicy → ℕ
list_for p = on_policy p (λ priority. suc priority.0) 0 0 list_count

-- The list in which a thread is to stand; `list_count` for one that is not queued.
unfoldable pub row_of : (ℕ → Bool) → List ThreadRecord → ℕ → ℕ
row_of queued t j = choose (queued j) (list_for (record_of t j).parameters.policy) list_count

-- The table holds these lists, the threads of each with its processor. `row` gives the list in which a thread stands,
-- `list_count` or more where in none: each list has exactly the threads whose row it is, so that no two have one in
-- common.
pub record Lists (lists : ℕ → ThreadQueue) (cpus : ℕ → CpuIndex) (t : List ThreadRecord)
    (row : ℕ → ℕ) : Type 0 where
  pub members : ℕ → List ℕ
  pub holds : (n : ℕ) → n < list_count → HoldsList t (lists n) (members n) (membership_at (cpus n) n)
  pub exact : (j n : ℕ) → n < list_count → has j (members n) ≡ eqb (row j) n

-- Up to n threads as one reads them from a link on, each the next of the one before.
unfoldable pub threads_from : ℕ → List ThreadRecord → Option ℕ → List ℕ
threads_from zero t at = []
threads_from (suc n) t at =
    on_link at [] (λ i. i ∷ on_queue_links (queue_links_at t i) [] (λ links. threads_from n t links.next))

-- The threads of a list: read from its head until there is no next. No list is longer than the table.
abbrev pub threads_of : List ThreadRecord → ThreadQueue → List ℕ
threads_of t list = threads_from (length t) t list.head

-- A thread joined to others: as the first, or as the last.
unfoldable pub joined : Bool → ℕ → List ℕ → List ℕ
joined front i members = choose front (i ∷ members) (members ++ i ∷ [])

-- List n changed by f, every other as it was.
unfoldable pub relisted : ℕ → (List ℕ → List ℕ) → (ℕ → List ℕ) → ℕ → List ℕ
relisted n f members m = choose (eqb m n) (f (members m)) (members m)
