-- What is seen of a queue, a window and records, as numbers. Where there may be none it is 0, else 1 and the number.
use Rattle.std.specs.Prelude.{ℕ, List, [], ◌∷◌, ◌++◌, Option, Some, None}
use Rattle.budget.specs.declared.BudgetRuntime.{BudgetRuntime}
use Rattle.algorithms.specs.declared.PolicyRuntime.{PolicyRuntime}
use Rattle.algorithms.specs.declared.PolicyRuntime.TheVariants as runtime
use Rattle.arbitration.specs.declared.CpuWindow.{CpuWindow}
use Rattle.thread.specs.declared.Links.{Links}
use Rattle.thread.specs.declared.QueueLinks.{QueueLinks}
use Rattle.thread.specs.declared.QueueMembership.{QueueMembership}
use Rattle.thread.specs.declared.QueueMembership.TheVariants as membership
use Rattle.thread.specs.declared.ThreadQueue.{ThreadQueue}
use Rattle.thread.specs.declared.ThreadRecord.{ThreadRecord}
use Rattle.rows.specs.Table.{record_of}
use Rattle.queue.specs.RunQueue.{CpuRunQueue}
use Rattle.queue.specs.Queue.{real_time_len, fair_len, budget_len, root_of}
use Rattle.worked_cases.specs.Rows.{bit}

abbrev pub none : List ℕ
none = 0 ∷ []

abbrev pub some : ℕ → List ℕ
some n = 1 ∷ n ∷ []

abbrev pub link_seen : Option ℕ → List ℕ
link_seen None = none
link_seen (Some n) = some n

abbrev pub epoch_seen : Option ℕ → List ℕ
epoch_seen None = none
epoch_seen (Some n) = some n

-- Left, right and height.
abbrev pub links_seen : Links → List ℕ
links_seen l = link_seen l.left ++ link_seen l.right ++ l.height ∷ []

-- ---- A record, but for its parameters.
abbrev membership_seen : QueueMembership → List ℕ
membership_seen membership.None = 0 ∷ []
membership_seen (membership.ReadyRealTime c priority) = 1 ∷ c.0 ∷ priority ∷ []
membership_seen (membership.ReadyFair c) = 2 ∷ c.0 ∷ []
membership_seen (membership.Waiting w) = 3 ∷ w ∷ []
membership_seen membership.Terminated = 4 ∷ []

abbrev queue_links_seen : QueueLinks → List ℕ
queue_links_seen l = link_seen l.previous ++ link_seen l.next ++ membership_seen l.membership

-- Epoch, what remains of the budget and of the burst.
abbrev budget_seen : BudgetRuntime → List ℕ
budget_seen b = epoch_seen b.epoch ++ b.remaining_ns ∷ b.burst_remaining_ns ∷ []

abbrev runtime_seen : PolicyRuntime → List ℕ
runtime_seen runtime.Fifo = 0 ∷ []
runtime_seen (runtime.Fair f) = 1 ∷ f.pass.high ∷ f.pass.low ∷ f.remaining_ns ∷ []
runtime_seen (runtime.Budget b) = 2 ∷ budget_seen b
runtime_seen runtime.Idle = 3 ∷ []

abbrev record_seen : ThreadRecord → List ℕ
record_seen r =
    runtime_seen r.runtime ++ r.ready_turn ∷ links_seen r.ready_tree ++ queue_links_seen r.queue_links
    ++ r.cpu.0 ∷ []

abbrev pub table_seen : List ThreadRecord → List ℕ
table_seen [] = []
table_seen (r ∷ t) = record_seen r ++ table_seen t

-- The runtimes of these threads.
abbrev pub runtimes_seen : List ℕ → List ThreadRecord → List ℕ
runtimes_seen [] t = []
runtimes_seen (i ∷ rest) t = runtime_seen (record_of t i).runtime ++ runtimes_seen rest t

-- ---- A queue.
-- Head, tail and length.
abbrev pub list_seen : ThreadQueue → List ℕ
list_seen l = link_seen l.head ++ link_seen l.tail ++ l.len ∷ []

abbrev lists_seen : List ThreadQueue → List ℕ
lists_seen [] = []
lists_seen (l ∷ rest) = list_seen l ++ lists_seen rest

-- Threads in the priority lists, threads in the fair list, budget threads.
abbrev pub lengths_seen : CpuRunQueue → List ℕ
lengths_seen q = real_time_len q ∷ fair_len q ∷ budget_len q ∷ []

-- The roots of these trees.
abbrev pub roots_seen : List ℕ → CpuRunQueue → List ℕ
roots_seen [] q = []
roots_seen (k ∷ rest) q = link_seen (root_of q k) ++ roots_seen rest q

-- All lists, lengths and roots, the epoch and the mark.
abbrev pub queue_seen : CpuRunQueue → List ℕ
queue_seen q =
    lists_seen q.realtime ++ list_seen q.fair ++ lengths_seen q
    ++ roots_seen (0 ∷ 1 ∷ 2 ∷ 3 ∷ 4 ∷ 5 ∷ 6 ∷ 7 ∷ 8 ∷ 9 ∷ 10 ∷ 11 ∷ []) q
    ++ epoch_seen q.budget_epoch ++ bit q.halted ∷ []

-- ---- A window: its epoch and what remains of the allowance and of the floor.
abbrev pub window_seen : CpuWindow → List ℕ
window_seen w = epoch_seen w.epoch ++ w.priority_remaining_ns ∷ w.protected_remaining_ns ∷ []
