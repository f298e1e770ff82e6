-- The queue's calls: enqueue at either end and remove, with document 01's refusals in its order, and what each leaves
-- behind.
use Rattle.std.specs.Prelude.{ℕ, ◌+◌, ◌-◌, Bool, true, false, List, length, get_or, set, replicate, Option, None}
use Rattle.std.specs.Prelude.{Result, Ok, Err}
use Rattle.refusal.specs.Answer.{Answer, value, refused, damaged, bad_state, already, no_thread, queue_halted}
use Rattle.refusal.specs.Answer.{bad_table}
use Rattle.refusal.specs.Answer.{bad_record}
use Rattle.refusal.specs.Cases.{choose, given, if_less, if_equal}
use Rattle.policy.specs.declared.SchedulingPolicy.{SchedulingPolicy}
use Rattle.policy.specs.PolicyCases.{on_policy}
use Rattle.thread.specs.declared.CpuIndex.{CpuIndex}
use Rattle.thread.specs.declared.QueueMembership.{QueueMembership}
use Rattle.thread.specs.declared.QueueMembership.TheVariants as membership
use Rattle.thread.specs.declared.ThreadQueue.{ThreadQueue}
use Rattle.thread.specs.declared.ThreadRecord.{ThreadRecord}
use Rattle.thread.specs.Membership.{empty_queue, on_membership, is_unqueued}
use Rattle.thread.specs.Judgement.{is_bad_record}
use Rattle.thread.specs.Filing.{index_for, on_index, budget_exhausted}
pub use Rattle.rows.specs.Table.{max_records}
use Rattle.rows.specs.Table.{Out, out, record_at}
use Rattle.rows.specs.TableCases.{on_record}
use Rattle.lists.specs.Lists.{on_answer}
use Rattle.ready_index.specs.Index as index
use Rattle.queue.specs.declared.Root.{Root}
use Rattle.queue.specs.RunQueue.{tree_count, priorities, CpuRunQueue}
use Rattle.queue_work.specs.declared.Parts.{Parts}
use Rattle.queue_work.specs.Work.{Work, done, turned_down, halts, insert_work, remove_work}
use Rattle.refusal.specs.declared.Damaged.{Damaged}

abbrev pub empty_root : Root
empty_root = record { root = None }

-- A new queue: 256 empty lists, an empty fair list, twelve empty trees, no epoch, not halted (SPECIFICATION 8.1).
abbrev pub new_queue : CpuRunQueue
new_queue =
    record {
      realtime = replicate priorities empty_queue;
      realtime_len = 0;
      fair = empty_queue;
      indices = replicate tree_count empty_root;
      budget_epoch = None;
      budget_threads = 0;
      halted = false;
    }

-- The list that a ready membership names: a priority's, or the fair one.
unfoldable pub list_of : CpuRunQueue → QueueMembership → ThreadQueue
list_of q m = on_membership m q.fair (λ c p. get_or q.realtime p empty_queue) (λ c. q.fair) (λ w. q.fair) q.fair

abbrev pub root_of : CpuRunQueue → ℕ → Option ℕ
root_of q k = (get_or q.indices k empty_root).root

unfoldable pub parts_of : CpuRunQueue → QueueMembership → ℕ → Parts
parts_of q m k =
    record {
      list = list_of q m;
      realtime_len = q.realtime_len;
      root = root_of q k;
      budget_threads = q.budget_threads;
    }

-- The counts and the root stored back, with these lists.
abbrev pub stored : CpuRunQueue → ℕ → Parts → List ThreadQueue → ThreadQueue → CpuRunQueue
stored q k p realtime fair =
    record {
      realtime = realtime;
      realtime_len = p.realtime_len;
      fair = fair;
      indices = set q.indices k (record { root = p.root });
      budget_epoch = q.budget_epoch;
      budget_threads = p.budget_threads;
      halted = q.halted;
    }

-- The parts stored back, the list where the membership says.
unfoldable pub with_parts : CpuRunQueue → QueueMembership → ℕ → Parts → CpuRunQueue
with_parts q m k p =
    on_membership m
    q
    (λ c priority. stored q k p (set q.realtime priority p.list) q.fair)
    (λ c. stored q k p q.realtime p.list)
    (λ w. q)
    q

-- The mark of a queue that halted (SPECIFICATION 8.4).
abbrev pub marked : CpuRunQueue → CpuRunQueue
marked q =
    record {
      realtime = q.realtime;
      realtime_len = q.realtime_len;
      fair = q.fair;
      indices = q.indices;
      budget_epoch = q.budget_epoch;
      budget_threads = q.budget_threads;
      halted = true;
    }

-- An answer, and the queue as it is left; the table stands beside it (`Out`).
pub data Step (A : Type 0) : Type 0 where
  step : Answer A → CpuRunQueue → Step A

-- What a call's work makes of queue and table: Halted leaves the source's stores and the mark (SPECIFICATION 8.4).
unfoldable pub worked : CpuRunQueue → QueueMembership → ℕ → Out Work → Out (Step (Unit {0}))
worked q m k (out (done p) t) = out (step (value tt) (with_parts q m k p)) t
worked q m k (out (turned_down n) t) = out (step (refused n) q) t
worked q m k (out (halts p) t) = out (step (refused queue_halted) (marked (with_parts q m k p))) t

unfoldable pub is_fifo : SchedulingPolicy → Bool
is_fifo p = on_policy p (λ priority. true) false false false

unfoldable pub is_budget : SchedulingPolicy → Bool
is_budget p = on_policy p (λ priority. false) false true false

-- The list in which a thread of a policy stands, on a processor.
unfoldable pub membership_for : SchedulingPolicy → CpuIndex → QueueMembership
membership_for p c =
    on_policy p (λ priority. membership.ReadyRealTime c priority.0) (membership.ReadyFair c)
    (membership.ReadyFair c) membership.None

-- BadTable, Halted, NoThread and BadRecord, in that order; then the judged record goes on with the tree of its filing,
-- and Idle is BadState.
unfoldable pub judged : {A : Type 0} → List ThreadRecord → CpuRunQueue → ℕ → (ThreadRecord → ℕ → Out (Step A))
    → Out (Step A)
judged t q id f =
    if_less max_records (length t) (out (step (refused bad_table) q) t)
    (choose q.halted (out (step (refused queue_halted) q) t)
    (on_record (record_at t id) (out (step (refused no_thread) q) t)
    (λ r. choose (is_bad_record r) (out (step (refused bad_record) q) t)
    (on_index (index_for r.parameters r.runtime) (out (step (refused bad_state) q) t)
    (λ k. f r k)))))

-- `enqueue` (false) and `enqueue_front` (true): Already where it is in a list, BadState where it is assigned to another
-- processor (SPECIFICATION 8.2).
unfoldable pub enqueue_call : Bool → List ThreadRecord → CpuRunQueue → ℕ → CpuIndex → Out (Step (Unit {0}))
enqueue_call front t q id c =
    judged t q id
    (λ r k. choose (is_unqueued r.queue_links.membership)
    (if_equal r.cpu.0 c.0
    (given (membership_for r.parameters.policy c)
    (λ m. worked q m k (insert_work front (is_fifo r.parameters.policy) (is_budget r.parameters.policy) t
    (parts_of q m k) id m)))
    (out (step (refused bad_state) q) t))
    (out (step (refused already) q) t))

-- The other budget tree of a role.
unfoldable pub partner : ℕ → ℕ
partner k = if_less k budget_exhausted (k + 3) (k - 3)

-- Yes, no, damaged.
unfoldable pub on_contained : {A : Type 0} → Result Bool Damaged → A → A → A → A
on_contained (Ok true) there absent broken = there
on_contained (Ok false) there absent broken = absent
on_contained (Err _) there absent broken = broken

-- The tree that holds the thread: that of its filing, or of a budget the partner; else Damaged.
unfoldable pub tree_with : List ThreadRecord → CpuRunQueue → ℕ → Bool → ℕ → Answer ℕ
tree_with t q id budgeted k =
    on_contained (index.contains t (root_of q k) id)
    (value k)
    (choose budgeted
    (on_contained (index.contains t (root_of q (partner k)) id) (value (partner k)) (refused damaged) (refused damaged))
    (refused damaged))
    (refused damaged)

-- Out of the list of membership m, which is ready on processor d, and of tree k.
unfoldable pub remove_ready : Bool → List ThreadRecord → CpuRunQueue → ℕ → CpuIndex → CpuIndex → Bool → ℕ
    → QueueMembership → Out (Step (Unit {0}))
remove_ready fifo t q id c d budgeted k m =
    if_equal d.0 c.0
    (worked q m k (remove_work fifo budgeted t (parts_of q m k) id m))
    (out (step (refused damaged) q) t)

-- A thread's own membership names its list; one that is not ready on this processor is Damaged.
unfoldable pub remove_from : List ThreadRecord → CpuRunQueue → ℕ → CpuIndex → ThreadRecord → ℕ → Out (Step (Unit {0}))
remove_from t q id c r k =
    given (is_budget r.parameters.policy)
    (λ budgeted. on_membership r.queue_links.membership
    (out (step (refused damaged) q) t)
    (λ d priority. remove_ready true t q id c d budgeted k (membership.ReadyRealTime d priority))
    (λ d. remove_ready false t q id c d budgeted k (membership.ReadyFair d))
    (λ w. out (step (refused damaged) q) t)
    (out (step (refused damaged) q) t))

-- `remove`: from the tree that holds the thread, and from the list of its membership (SPECIFICATION 8.3).
unfoldable pub remove_call : List ThreadRecord → CpuRunQueue → ℕ → CpuIndex → Out (Step (Unit {0}))
remove_call t q id c =
    judged t q id
    (λ r k. on_answer (tree_with t q id (is_budget r.parameters.policy) k)
    (λ n. out (step (refused n) q) t)
    (λ tree. remove_from t q id c r tree))

-- The lengths.
abbrev pub real_time_len : CpuRunQueue → ℕ
real_time_len q = q.realtime_len

abbrev pub fair_len : CpuRunQueue → ℕ
fair_len q = q.fair.len

abbrev pub budget_len : CpuRunQueue → ℕ
budget_len q = q.budget_threads
