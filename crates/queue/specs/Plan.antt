-- A call in two halves: what it is to do, found without the queue's lists, and the doing. The definitions in Queue say
-- the same (PlanLaws).
use Rattle.std.specs.Prelude.{ℕ, Bool, true, false, List, length, Option}
use Rattle.refusal.specs.Answer.{Answer, value, refused, damaged, bad_state, already, no_thread, queue_halted}
use Rattle.refusal.specs.Answer.{bad_table}
use Rattle.refusal.specs.Answer.{bad_record}
use Rattle.refusal.specs.Cases.{choose, given, if_less, if_equal, and_then}
use Rattle.thread.specs.declared.CpuIndex.{CpuIndex}
use Rattle.thread.specs.declared.QueueMembership.{QueueMembership}
use Rattle.thread.specs.declared.QueueMembership.TheVariants as membership
use Rattle.thread.specs.declared.ThreadRecord.{ThreadRecord}
use Rattle.thread.specs.Membership.{on_membership, is_unqueued}
use Rattle.thread.specs.Judgement.{is_bad_record}
use Rattle.thread.specs.Filing.{index_for, on_index}
use Rattle.rows.specs.Table.{Out, out, record_at}
use Rattle.rows.specs.TableCases.{on_record}
use Rattle.lists.specs.Lists.{on_answer}
use Rattle.ready_index.specs.Index as index
use Rattle.queue.specs.RunQueue.{CpuRunQueue}
use Rattle.queue.specs.declared.Filed.{Filed}
use Rattle.queue.specs.declared.Plan.{Plan}
use Rattle.queue_work.specs.Work.{Work, done, turned_down, halts, insert_work, remove_work}
use Rattle.queue.specs.Queue.{Step, step, max_records, root_of, parts_of, with_parts, marked, worked, is_fifo}
use Rattle.queue.specs.Queue.{is_budget, membership_for, partner, on_contained}

-- Of a judged record what the plans go by.
abbrev pub filed_of : ThreadRecord → ℕ → Filed
filed_of r k =
    record { policy = r.parameters.policy; membership = r.queue_links.membership; cpu = r.cpu; index = k }

-- BadTable, Halted, NoThread and BadRecord, in that order; then the judged record with the tree of its filing, and Idle
-- is BadState.
unfoldable pub judgement : List ThreadRecord → Bool → ℕ → Answer Filed
judgement t halted id =
    if_less max_records (length t) (refused bad_table)
    (choose halted (refused queue_halted)
    (on_record (record_at t id) (refused no_thread)
    (λ r. choose (is_bad_record r) (refused bad_record)
    (on_index (index_for r.parameters r.runtime) (refused bad_state)
    (λ k. given (filed_of r k) (λ f. value f))))))

-- An enqueue of a judged thread: into the list of its policy and the tree of its filing.
unfoldable pub plan_insertion : Filed → CpuIndex → Answer Plan
plan_insertion f c =
    choose (is_unqueued f.membership)
    (if_equal f.cpu.0 c.0
    (given (membership_for f.policy c)
    (λ m. given (is_fifo f.policy)
    (λ fifo. given (is_budget f.policy)
    (λ budgeted. value (record { membership = m; index = f.index; fifo = fifo; budgeted = budgeted })))))
    (refused bad_state))
    (refused already)

unfoldable pub insertion_plan : List ThreadRecord → Bool → ℕ → CpuIndex → Answer Plan
insertion_plan t halted id c = and_then (judgement t halted id) (λ f. plan_insertion f c)

-- The tree that holds the thread, by the roots of its filing's tree and of the partner.
unfoldable pub tree_found : List ThreadRecord → Option ℕ → Option ℕ → ℕ → Bool → ℕ → Answer ℕ
tree_found t root other id budgeted k =
    on_contained (index.contains t root id)
    (value k)
    (choose budgeted
    (on_contained (index.contains t other id) (given (partner k) (λ n. value n)) (refused damaged) (refused damaged))
    (refused damaged))
    (refused damaged)

-- Out of a list, which is ready on processor d, and of tree k.
unfoldable pub plan_ready : Bool → CpuIndex → CpuIndex → Bool → ℕ → QueueMembership → Answer Plan
plan_ready fifo c d budgeted k m =
    if_equal d.0 c.0 (value (record { membership = m; index = k; fifo = fifo; budgeted = budgeted }))
    (refused damaged)

-- A removal of a judged thread, which tree k holds: out of the list of its own membership.
unfoldable pub plan_removal : Filed → ℕ → CpuIndex → Answer Plan
plan_removal f k c =
    given (is_budget f.policy)
    (λ budgeted. on_membership f.membership
    (refused damaged)
    (λ d priority. plan_ready true c d budgeted k (membership.ReadyRealTime d priority))
    (λ d. plan_ready false c d budgeted k (membership.ReadyFair d))
    (λ w. refused damaged)
    (refused damaged))

unfoldable pub removal_plan : List ThreadRecord → Filed → Option ℕ → Option ℕ → ℕ → CpuIndex → Answer Plan
removal_plan t f root other id c =
    given (is_budget f.policy)
    (λ budgeted. and_then (tree_found t root other id budgeted f.index) (λ k. plan_removal f k c))

-- A call's work put back into the queue.
unfoldable pub settled : CpuRunQueue → QueueMembership → ℕ → Work → Step (Unit {0})
settled q m k (done p) = step (value tt) (with_parts q m k p)
settled q m k (turned_down n) = step (refused n) q
settled q m k (halts p) = step (refused queue_halted) (marked (with_parts q m k p))

-- The work of an enqueue by its plan.
unfoldable pub insert_by : Bool → List ThreadRecord → CpuRunQueue → ℕ → Plan → Out (Step (Unit {0}))
insert_by front t q id p =
    given (parts_of q p.membership p.index)
    (λ parts. worked q p.membership p.index (insert_work front p.fifo p.budgeted t parts id p.membership))

-- The work of a removal by its plan.
unfoldable pub remove_by : List ThreadRecord → CpuRunQueue → ℕ → Plan → Out (Step (Unit {0}))
remove_by t q id p =
    given (parts_of q p.membership p.index)
    (λ parts. worked q p.membership p.index (remove_work p.fifo p.budgeted t parts id p.membership))

-- A removal of a judged thread: the tree that holds it, then the plan, then the work.
unfoldable pub remove_filed : List ThreadRecord → CpuRunQueue → ℕ → CpuIndex → Filed → Out (Step (Unit {0}))
remove_filed t q id c f =
    given (root_of q f.index)
    (λ root. given (partner f.index)
    (λ k. given (root_of q k)
    (λ other. on_answer (removal_plan t f root other id c)
    (λ n. out (step (refused n) q) t)
    (remove_by t q id))))
