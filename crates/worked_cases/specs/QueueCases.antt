-- The queue's calls on the small table of crate queue: what each answers, and what they leave, as numbers.
use Rattle.std.specs.Prelude.{ℕ, true, false, List, [], ◌∷◌, ◌++◌, get_or, Some}
use Rattle.thread.specs.Membership.{empty_queue}
use Rattle.thread.specs.Records.{with_runtime}
use Rattle.rows.specs.Table.{changed}
use Rattle.queue.specs.RunQueue.{CpuRunQueue}
use Rattle.queue.specs.Queue.{new_queue, stored}
use Rattle.queue.specs.Samples.{nine, enqueue_at, remove_at, Call, Left, left_by, budget_thread}
use Rattle.worked_cases.specs.Rows.{Row, row, bit}
use Rattle.worked_cases.specs.Seen.{none, some, list_seen, lengths_seen, roots_seen, queue_seen, table_seen}

-- ---- What is looked at.
-- The answers, and queue and table whole.
abbrev whole_left : Left → List ℕ
whole_left l = l.answers ++ queue_seen l.queue ++ table_seen l.table

-- The mark, the lengths, the lists of priority 5 and of fair threads, and the roots of these trees.
abbrev standing : List ℕ → CpuRunQueue → List ℕ
standing trees q =
    bit q.halted ∷ lengths_seen q ++ list_seen (get_or q.realtime 5 empty_queue) ++ list_seen q.fair
    ++ roots_seen trees q

-- ---- The calls.
-- Every kind of refusal that the table shows, each thread put in and taken out again, at either end.
abbrev in_and_out : List Call
in_and_out =
    remove_at 0 ∷ enqueue_at false 0 ∷ enqueue_at false 0 ∷ enqueue_at true 8 ∷ enqueue_at false 1 ∷ enqueue_at true 2
    ∷ enqueue_at false 3 ∷ enqueue_at false 4 ∷ enqueue_at false 5 ∷ enqueue_at true 6
    ∷ enqueue_at false 7 ∷ enqueue_at false 9 ∷ remove_at 7 ∷ remove_at 3 ∷ remove_at 3 ∷ remove_at 0 ∷ remove_at 2
    ∷ remove_at 4 ∷ remove_at 8 ∷ remove_at 1 ∷ []

-- The five that are accepted.
abbrev five : Left
five =
    left_by (enqueue_at false 0 ∷ enqueue_at true 8 ∷ enqueue_at false 1 ∷ enqueue_at true 2 ∷ enqueue_at false 3 ∷ [])
    new_queue nine

-- A budget thread whose time ran out while it was queued.
abbrev ran_out : Left
ran_out = left_by (remove_at 2 ∷ []) five.queue (changed five.table 2 (with_runtime (budget_thread 0).runtime))

-- A tree's root outside of the table.
abbrev broken : Left
broken = left_by (enqueue_at false 0 ∷ enqueue_at false 12 ∷ remove_at 1 ∷ [])
    (stored new_queue 0 (record { list = empty_queue; realtime_len = 0; root = Some 12; budget_threads = 0 })
    new_queue.realtime empty_queue) nine

-- ---- The rows.
abbrev pub queue_rows : List Row
queue_rows =
    -- What is put in and taken out again leaves queue and table as they were.
    row (whole_left (left_by in_and_out new_queue nine))
    ((1 ∷ 0 ∷ 3 ∷ 0 ∷ 0 ∷ 0 ∷ 0 ∷ 2 ∷ 2 ∷ 11 ∷ 3 ∷ 4 ∷ 1 ∷ 0 ∷ 1 ∷ 0 ∷ 0 ∷ 2 ∷ 0 ∷ 0 ∷ []) ++ queue_seen new_queue
    ++ table_seen nine)
    -- Two of FIFO, the later one at the front; three in the fair list, two of them with a budget; each in the tree of
    -- its filing.
    ∷ row (standing (0 ∷ 4 ∷ 8 ∷ 11 ∷ []) five.queue)
    (0 ∷ 2 ∷ 3 ∷ 2 ∷ some 8 ++ some 0 ++ 2 ∷ some 2 ++ some 3 ++ 3 ∷ some 0 ++ some 1 ++ some 2 ++ some 3)
    -- A budget thread whose time ran out while it was queued stands in the partner tree, and is removed from there.
    ∷ row (ran_out.answers ++ roots_seen (8 ∷ 11 ∷ []) ran_out.queue) (0 ∷ none ++ some 3)
    -- A tree's root outside of the table: the enqueue halts with the list stored and the mark, and from then on every
    -- call answers Halted before it looks at the number.
    ∷ row (broken.answers ++ standing (0 ∷ []) broken.queue)
    (9 ∷ 9 ∷ 9 ∷ 1 ∷ 1 ∷ 0 ∷ 0 ∷ some 0 ++ some 0 ++ 1 ∷ none ++ none ++ 0 ∷ some 12)
    ∷ []
