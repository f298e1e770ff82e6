-- The work of enqueue and remove on the parts of a queue that a call touches: a list, the FIFO total, a root, the
-- number of budget threads. Where the source halts, the parts are as it had stored them. After `CpuRunQueue::insert`
-- and `remove` of scheduler/queue.rs.
use Rattle.std.specs.Prelude.{ℕ, ◌+◌, ◌-◌, ◌≡◌, Bool, true, false, List, Option, Result, Ok, Err}
use Rattle.refusal.specs.Answer.{Answer, value, refused, number_of, damaged}
use Rattle.refusal.specs.Cases.{choose, if_equal}
use Rattle.thread.specs.declared.QueueMembership.{QueueMembership}
use Rattle.thread.specs.declared.ThreadQueue.{ThreadQueue}
use Rattle.thread.specs.declared.ThreadRecord.{ThreadRecord}
use Rattle.rows.specs.Table.{Out, out}
use Rattle.lists.specs.Checks.{max_length}
use Rattle.lists.specs.Lists as list
use Rattle.ready_index.specs.Cases.{on_rooted}
use Rattle.ready_index.specs.Index as index
use Rattle.queue_work.specs.declared.Parts.{Parts}
use Rattle.queue_work.specs.declared.Worked.{Worked}
use Rattle.queue_work.specs.declared.Worked.TheVariants as worked
use Rattle.refusal.specs.declared.Refusal.{Refusal}

-- The parts afterwards; a refusal's number, with nothing changed; or the parts as stored where the source halts.
pub data Work : Type 0 where
  done : Parts → Work
  turned_down : ℕ → Work
  halts : Parts → Work

-- What a refused work leaves is what was there, word for word.
abbrev pub Untouched : {B : Type 0} → Work → B → B → Type 0
Untouched (done p) before after = Unit {0}
Untouched (turned_down n) before after = after ≡ before
Untouched (halts p) before after = Unit {0}

-- The work was not refused.
abbrev pub Stores : Work → Type 0
Stores (done p) = Unit {0}
Stores (turned_down n) = ⊥
Stores (halts p) = Unit {0}

-- Document 01's number, or the values, of each answer.
abbrev pub work_of : Worked → Work
work_of (worked.Refused n) = turned_down (number_of n)
work_of (worked.Stored p false) = done p
work_of (worked.Stored p true) = halts p

abbrev pub with_budget_threads : Parts → ℕ → Parts
with_budget_threads p n =
    record { list = p.list; realtime_len = p.realtime_len; root = p.root; budget_threads = n }

-- One budget thread more, for a budget thread; a count that would leave its range halts.
unfoldable pub counted_in : Bool → Parts → Work
counted_in budgeted p =
    choose budgeted
    (if_equal p.budget_threads max_length (halts p) (done (with_budget_threads p (p.budget_threads + 1))))
    (done p)

-- One budget thread less, for a budget thread.
unfoldable pub counted_out : Bool → Parts → Work
counted_out budgeted p =
    choose budgeted
    (if_equal p.budget_threads 0 (halts p) (done (with_budget_threads p (p.budget_threads - 1))))
    (done p)

-- The FIFO total after an insertion: it counts FIFO threads alone, and one that would leave its range is Damaged
-- (`FixedPriorityFifo::enqueue`).
unfoldable pub total_in : Bool → ℕ → Answer ℕ
total_in fifo n = choose fifo (if_equal n max_length (refused damaged) (value (n + 1))) (value n)

-- The FIFO total after a removal (`FixedPriorityFifo::remove`).
unfoldable pub total_out : Bool → ℕ → Answer ℕ
total_out fifo n = choose fifo (if_equal n 0 (refused damaged) (value (n - 1))) (value n)

-- At the front, or at the back.
unfoldable pub push_at : Bool → List ThreadRecord → ThreadQueue → ℕ → QueueMembership → Out (Answer ThreadQueue)
push_at front t q id m = choose front (list.push_front t q id m) (list.push t q id m)

-- The parts once list and total are stored: the root is still the old one.
abbrev pub list_stored : Parts → ThreadQueue → ℕ → Parts
list_stored p q len = record { list = q; realtime_len = len; root = p.root; budget_threads = p.budget_threads }

-- The same with the new root.
abbrev pub tree_stored : Parts → ThreadQueue → ℕ → Option ℕ → Parts
tree_stored p q len root = record { list = q; realtime_len = len; root = root; budget_threads = p.budget_threads }

-- With list and total stored: into the tree, then counted. Any error in the tree halts.
abbrev pub tree_inserted : Bool → List ThreadRecord → Parts → ℕ → Out Work
tree_inserted budgeted t p id =
    on_rooted (index.insert t p.root id)
    (λ t₁. out (halts p) t₁)
    (λ root t₁. out (counted_in budgeted (tree_stored p p.list p.realtime_len root)) t₁)

-- With list and total stored: out of the tree, then out of the count.
abbrev pub tree_removed : Bool → List ThreadRecord → Parts → ℕ → Out Work
tree_removed budgeted t p id =
    on_rooted (index.remove t p.root id)
    (λ t₁. out (halts p) t₁)
    (λ root t₁. out (counted_out budgeted (tree_stored p p.list p.realtime_len root)) t₁)

-- A judged thread put into its list, then its tree, then counted (`CpuRunQueue::insert`). Any error in the tree halts.
unfoldable pub insert_work : Bool → Bool → Bool → List ThreadRecord → Parts → ℕ → QueueMembership → Out Work
insert_work front fifo budgeted t p id m =
    list.on_answer (total_in fifo p.realtime_len) (λ n. out (turned_down n) t)
    (λ len. list.on_out (push_at front t p.list id m)
    (λ a t₁. list.on_answer a (λ n. out (turned_down n) t₁)
    (λ q. on_rooted (index.insert t₁ p.root id)
    (λ t₂. out (halts (list_stored p q len)) t₂)
    (λ root t₂. out (counted_in budgeted (tree_stored p q len root)) t₂))))

-- A thread that its tree holds taken out of its list, then its tree, then the count (`CpuRunQueue::remove`).
unfoldable pub remove_work : Bool → Bool → List ThreadRecord → Parts → ℕ → QueueMembership → Out Work
remove_work fifo budgeted t p id m =
    list.on_answer (total_out fifo p.realtime_len) (λ n. out (turned_down n) t)
    (λ len. list.on_out (list.remove t p.list id m)
    (λ a t₁. list.on_answer a (λ n. out (turned_down n) t₁)
    (λ q. on_rooted (index.remove t₁ p.root id)
    (λ t₂. out (halts (list_stored p q len)) t₂)
    (λ root t₂. out (counted_out budgeted (tree_stored p q len root)) t₂))))
