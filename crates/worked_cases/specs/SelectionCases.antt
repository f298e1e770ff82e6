-- Document 01's cases of selection, those marked ● and others: what each answers, and what it leaves, as numbers.
use Rattle.std.specs.Prelude.{ℕ, suc, ◌+◌, false, List, [], ◌∷◌, ◌++◌, Option, Some, None}
use Rattle.refusal.specs.Answer.{Answer, value, refused}
use Rattle.policy.specs.declared.FairBackend.TheVariants as backend
use Rattle.policy.specs.declared.SchedulingRole.TheVariants as role
use Rattle.algorithms.specs.declared.PolicyRuntime.TheVariants as runtime
use Rattle.arbitration.specs.declared.Demand.{Demand}
use Rattle.thread.specs.declared.QueueMembership.TheVariants as membership
use Rattle.thread.specs.Records.{with_runtime, with_queue_links}
use Rattle.rows.specs.Table.{Out, out, changed}
use Rattle.queue.specs.declared.Root.{Root}
use Rattle.queue.specs.RunQueue.{CpuRunQueue}
use Rattle.queue.specs.Queue.{new_queue, marked}
use Rattle.queue.specs.Samples.{cpu, enqueue_at, Left, left_by}
use Rattle.selection.specs.declared.Selection.{Selection}
use Rattle.renewal.specs.Renewal.{with_trees}
use Rattle.selection.specs.Peek.{Peeked, peeked, peek_next}
use Rattle.selection.specs.Samples.{window, spent_window, bad_window, six, budgeted, fair, running, running_fair}
use Rattle.selection.specs.Samples.{last_at}
use Rattle.selection.specs.Samples.{selected, answer_of, window_of, queue_of, table_of, named, lowest}
use Rattle.worked_cases.specs.Rows.{Row, row, bit}
use Rattle.worked_cases.specs.Seen.{none, some, epoch_seen, runtimes_seen, roots_seen, queue_seen, table_seen}
use Rattle.worked_cases.specs.Seen.{window_seen}
use Rattle.algorithms.specs.declared.Wide.{Wide}

-- ---- What is looked at, and the words for what is said.
-- A selection names this thread, none, or refuses with this number (`named`).
abbrev thread : ℕ → ℕ
thread n = suc n

abbrev nobody_named : ℕ
nobody_named = 0

abbrev refusal : ℕ → ℕ
refusal n = 100 + n

abbrev asked : Demand → List ℕ
asked d =
    bit d.protected ∷ bit d.fair ∷ bit d.window_sensitive ∷ bit d.eligible_budget
    ∷ bit d.any_budget ∷ []

abbrev demand_seen : Answer Selection → List ℕ
demand_seen (value s) = asked s.demand
demand_seen (refused n) = []

-- High and low word.
abbrev pass_seen : Option Wide → List ℕ
pass_seen None = none
pass_seen (Some p) = 1 ∷ p.high ∷ p.low ∷ []

-- Whom it names, and the queue's mark and epoch, the roots of these trees and the runtimes of these threads as it
-- leaves them.
abbrev leaving : List ℕ → List ℕ → Out (Peeked CpuRunQueue) → List ℕ
leaving trees threads (out (peeked a w q) t) =
    named a ∷ bit q.halted ∷ epoch_seen q.budget_epoch ++ roots_seen trees q ++ runtimes_seen threads t

-- Whom it names, and all that it leaves.
abbrev leaving_all : Out (Peeked CpuRunQueue) → List ℕ
leaving_all (out (peeked a w q) t) = named a ∷ window_seen w ++ queue_seen q ++ table_seen t

-- ---- The states that the cases start from.
-- These threads put at the back, one after the other.
abbrev nobody : Left
nobody = left_by [] new_queue six

abbrev emptied : Left
emptied = left_by (enqueue_at false 0 ∷ []) new_queue six

abbrev both : Left
both = left_by (enqueue_at false 0 ∷ enqueue_at false 1 ∷ []) new_queue six

abbrev fairs : Left
fairs = left_by (enqueue_at false 3 ∷ enqueue_at false 4 ∷ []) new_queue six

abbrev two_backends : Left
two_backends = left_by (enqueue_at false 3 ∷ enqueue_at false 5 ∷ []) new_queue six

-- The same with this epoch of the last selection.
abbrev since : ℕ → Left → Left
since e l = record { answers = l.answers; queue = last_at (Some e) l.queue; table = l.table }

-- The protected thread's record says that it is ready on another processor.
abbrev differing : Left
differing =
    record {
      answers = both.answers;
      queue = last_at (Some 0) both.queue;
      table =
          changed both.table 0 (with_queue_links
          (record { previous = None; next = Some 1; membership = membership.ReadyFair (cpu 1) }));
    }

-- A queue of one budget thread with these trees.
abbrev rooted : List Root → CpuRunQueue
rooted trees =
    record {
      realtime = new_queue.realtime;
      realtime_len = 0;
      fair = emptied.queue.fair;
      indices = trees;
      budget_epoch = None;
      budget_threads = 1;
      halted = false;
    }

-- A root of an exhausted tree outside of the table.
abbrev astray : Left
astray = record {
  answers = [];
  queue =
      rooted (with_trees emptied.queue.indices 0
      (record { exhausted = Some 12; ready = None; moves = 0 }));
  table = emptied.table;
}

-- The exhausted thread also in the tree that it is to go to.
abbrev doubled : Left
doubled = record {
  answers = [];
  queue =
      rooted (with_trees emptied.queue.indices 2
      (record { exhausted = Some 0; ready = Some 0; moves = 0 }));
  table = emptied.table;
}

-- A record whose runtime is not of its policy's kind.
abbrev misfit : Left
misfit = record { answers = []; queue = emptied.queue; table = changed emptied.table 0 (with_runtime runtime.Idle) }

-- One record in the exhausted trees of two roles.
abbrev twice : Left
twice =
    record {
      answers = [];
      queue = rooted (with_trees (with_trees new_queue.indices 0
          (record { exhausted = Some 0; ready = None; moves = 0 })) 1
          (record { exhausted = Some 0; ready = None; moves = 0 }));
      table = budgeted role.Ordinary (Some 0) 0 8 ∷ [];
    }

-- A Fair thread of role Priority and an ordinary one with one pass and turn.
abbrev equals : Left
equals =
    left_by (enqueue_at false 0 ∷ enqueue_at false 1 ∷ []) new_queue
    (fair backend.Stride role.Priority 0 5 9 ∷ fair backend.Stride role.Ordinary 0 5 9 ∷ [])

abbrev halted_queue : Left
halted_queue = record { answers = []; queue = marked emptied.queue; table = emptied.table }

-- A full budget of 2,000,000 in epoch 1.
abbrev full : List ℕ
full = 2 ∷ some 1 ++ 2000000 ∷ 2000000 ∷ []

-- ---- The rows.
abbrev idle : Out (Peeked CpuRunQueue)
idle = selected nobody 25000000 (Some running)

abbrev empty_rows : List Row
empty_rows =
    -- ● Empty queue: selection gives none, the current thread's demand, and the window is not refreshed.
    row (named (answer_of idle) ∷ demand_seen (answer_of idle) ++ pass_seen (lowest (answer_of idle)))
    (nobody_named ∷ 0 ∷ 1 ∷ 0 ∷ 0 ∷ 0 ∷ none)
    ∷ row (window_seen (window_of idle)) (none ++ 2000000 ∷ 3000000 ∷ [])
    -- The queue's epoch is stored, and nothing else changes.
    ∷ row (queue_seen (queue_of idle) ++ table_seen (table_of idle))
    (queue_seen (last_at (Some 2) new_queue) ++ table_seen six)
    ∷ []

abbrev period_rows : List Row
period_rows =
    -- ● A thread empty in epoch 1, its queue last at epoch 0, selection at 15,000,000: filed as ready with nothing
    -- left. It borrows, so it is named.
    row (roots_seen (8 ∷ 11 ∷ []) emptied.queue) (none ++ some 0)
    ∷ row (leaving (8 ∷ 11 ∷ []) (0 ∷ []) (selected (since 0 emptied) 15000000 None))
    (thread 0 ∷ 0 ∷ some 1 ++ some 0 ++ none ++ 2 ∷ some 1 ++ 0 ∷ 2000000 ∷ [])
    -- With a thread queued the window is refreshed.
    ∷ row (window_seen (window_of (selected (since 0 emptied) 15000000 None)))
    (some 1 ++ 2000000 ∷ 3000000 ∷ [])
    -- ● All queued threads exhausted and the current one FIFO: no key for any of them. Without the current one there is
    -- a key.
    ∷ row (named (answer_of (selected (since 0 both) 9000000 (Some running)))
    ∷ named (answer_of (selected (since 0 both) 9000000 None)) ∷ []) (nobody_named ∷ thread 0 ∷ [])
    -- In a new period the one is full again and goes first, the protected one is still empty.
    ∷ row (leaving [] (0 ∷ 1 ∷ []) (selected (since 0 both) 15000000 (Some running)))
    (thread 1 ∷ 0 ∷ some 1 ++ 2 ∷ some 1 ++ 0 ∷ 2000000 ∷ full)
    -- At any change of epoch, also backward or from none, the exhausted thread is filed as ready; within the epoch it
    -- stays.
    ∷ row (leaving (8 ∷ 11 ∷ []) [] (selected (since 2 emptied) 15000000 None))
    (thread 0 ∷ 0 ∷ some 1 ++ some 0 ++ none)
    ∷ row (leaving (8 ∷ 11 ∷ []) [] (selected emptied 15000000 None))
    (thread 0 ∷ 0 ∷ some 1 ++ some 0 ++ none)
    ∷ row (leaving (8 ∷ 11 ∷ []) [] (selected (since 2 emptied) 25000000 None))
    (thread 0 ∷ 0 ∷ some 2 ++ none ++ some 0)
    ∷ []

abbrev refused_rows : List Row
refused_rows =
    -- A processor number that differs from a head's refuses as Damaged; the change of period and the heads refreshed
    -- before it stay done.
    row (leaving (6 ∷ 8 ∷ []) (1 ∷ []) (selected differing 15000000 None))
    (refusal 1 ∷ 0 ∷ some 1 ++ some 1 ++ some 0 ++ full)
    -- A root of an exhausted tree outside of the table: Damaged, and the epoch is not stored.
    ∷ row (leaving [] [] (selected astray 0 None)) (refusal 1 ∷ 0 ∷ none)
    -- The exhausted thread also in the tree that it is to go to: its insertion halts, with the removal stored and the
    -- mark.
    ∷ row (leaving (8 ∷ 11 ∷ []) [] (selected doubled 0 None)) (refusal 9 ∷ 1 ∷ none ++ some 0 ++ none)
    -- A record whose runtime is not of its policy's kind is found after its removal from the exhausted tree.
    ∷ row (leaving (8 ∷ 11 ∷ []) [] (selected misfit 0 None)) (refusal 11 ∷ 0 ∷ none ++ none ++ none)
    -- One record in the exhausted trees of two roles: the second move is one more than there are records, and is
    -- Damaged before it stores anything; the first stays done.
    ∷ row (leaving (6 ∷ 9 ∷ 10 ∷ []) [] (selected twice 15000000 None))
    (refusal 1 ∷ 0 ∷ none ++ some 0 ++ none ++ some 0)
    -- BadConfig comes before Halted, and both before anything is looked at.
    ∷ row (leaving_all (peek_next halted_queue.table halted_queue.queue (cpu 0) 15000000 bad_window None))
    (refusal 5 ∷ window_seen bad_window ++ queue_seen halted_queue.queue ++ table_seen halted_queue.table)
    ∷ row (leaving_all (selected halted_queue 15000000 None))
    (refusal 9 ∷ window_seen window ++ queue_seen halted_queue.queue ++ table_seen halted_queue.table)
    ∷ []

abbrev pass_rows : List Row
pass_rows =
    -- Lowest fair pass: least over the heads of the Fair trees and a Fair current thread; a queued round robin thread
    -- counts as 0, the current one with its own.
    row (pass_seen (lowest (answer_of (selected fairs 0 None)))) (1 ∷ 1 ∷ 4 ∷ [])
    ∷ row (pass_seen (lowest (answer_of (selected fairs 0 (Some (running_fair backend.RoundRobin 0 9))))))
    (1 ∷ 0 ∷ 9 ∷ [])
    ∷ row (pass_seen (lowest (answer_of (selected two_backends 0 (Some (running_fair backend.Stride 0 9))))))
    (1 ∷ 0 ∷ 0 ∷ [])
    ∷ row (pass_seen (lowest (answer_of (selected nobody 0 (Some (running_fair backend.Stride 2 9))))))
    (1 ∷ 2 ∷ 9 ∷ [])
    ∷ row (pass_seen (lowest (answer_of (selected emptied 0 (Some running))))) none
    -- With the allowance spent the keys of the two are equal, and the lower number is named, though its tree comes
    -- later; with the allowance it is named too.
    ∷ row (named (answer_of (peek_next equals.table equals.queue (cpu 0) 5000000 spent_window None))
    ∷ named (answer_of (selected equals 5000000 None)) ∷ []) (thread 0 ∷ thread 0 ∷ [])
    ∷ []

abbrev pub selection_rows : List Row
selection_rows = empty_rows ++ period_rows ++ refused_rows ++ pass_rows
