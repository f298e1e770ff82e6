-- The words that the library left in a run, for a board that meets the premises of demand 3: two protected loops and a
-- FIFO thread are enqueued by processor 0, then a selection is made at 7,000,000.
use Rattle.std.specs.Prelude.{ℕ, ◌+◌, List, [], ◌∷◌, replicate, set}
use Rattle.lent_queue.specs.LentQueue.{queue_rows, fair_row, root_rows, marks_row}
use Rattle.sound_queue.specs.Sound.{nobody, including}
use Rattle.sound_board.specs.Claim.{Board, left}

-- The first 16 words of a protected loop's row, with this tag of its epoch, and of the FIFO thread's.
abbrev loop : ℕ → List ℕ → List ℕ
loop epoch rest =
    2 ∷ 0 ∷ 1 ∷ 2 ∷ 0 ∷ 0 ∷ 0 ∷ 1 ∷ 2000000 ∷ 10000000 ∷ 2000000 ∷ 2 ∷ epoch ∷ 0 ∷ 2000000 ∷ 2000000 ∷ rest

abbrev drive : List ℕ → List ℕ
drive rest = 0 ∷ 5 ∷ 1 ∷ 1 ∷ 0 ∷ 0 ∷ 0 ∷ 0 ∷ 0 ∷ 0 ∷ 0 ∷ 0 ∷ 0 ∷ 0 ∷ 0 ∷ 0 ∷ rest

-- The other words: turn, tree links with height, list links, membership, processor, two spare ones. In no list:
abbrev unqueued : ℕ → List ℕ
unqueued turn = turn ∷ replicate 15 0

-- In the list and the tree of loops: the first has the second before it and below it.
abbrev first_loop : List ℕ
first_loop = loop 0 (12 ∷ 1 ∷ 1 ∷ 0 ∷ 0 ∷ 2 ∷ 1 ∷ 1 ∷ 0 ∷ 0 ∷ 2 ∷ replicate 5 0)

abbrev second_loop : ℕ → List ℕ
second_loop epoch = loop epoch (11 ∷ 0 ∷ 0 ∷ 0 ∷ 0 ∷ 1 ∷ 0 ∷ 0 ∷ 1 ∷ 0 ∷ 2 ∷ replicate 5 0)

-- The rows at first, and after each call.
abbrev pub rows : List (List ℕ)
rows = loop 0 (unqueued 12) ∷ loop 0 (unqueued 11) ∷ drive (unqueued 13) ∷ []

abbrev pub rows₁ : List (List ℕ)
rows₁ = loop 0 (12 ∷ 0 ∷ 0 ∷ 0 ∷ 0 ∷ 1 ∷ 0 ∷ 0 ∷ 0 ∷ 0 ∷ 2 ∷ replicate 5 0) ∷ loop 0 (unqueued 11)
    ∷ drive (unqueued 13) ∷ []

abbrev pub rows₂ : List (List ℕ)
rows₂ = first_loop ∷ second_loop 0 ∷ drive (unqueued 13) ∷ []

-- Tag 0 after the last enqueue; the selection refreshes the second loop, the head of its tree, which has tag 1 then.
abbrev pub rows₃ : ℕ → List (List ℕ)
rows₃ epoch =
    first_loop ∷ second_loop epoch
    ∷ drive (13 ∷ 0 ∷ 0 ∷ 0 ∷ 0 ∷ 1 ∷ 0 ∷ 0 ∷ 0 ∷ 0 ∷ 1 ∷ 0 ∷ 5 ∷ 0 ∷ 0 ∷ 0 ∷ []) ∷ []

-- The queue's words at first, and after each call: the list of loops, the root of their tree, the row of counts and
-- epoch; then the list of priority 5 and the root of its tree too, and by the selection the tag of the epoch.
abbrev pub queue : List (List ℕ)
queue = replicate queue_rows (replicate 5 0)

abbrev with_loops : List ℕ → List ℕ → List (List ℕ)
with_loops fair marks = set (set (set queue fair_row fair) (root_rows + 8) (1 ∷ 0 ∷ 0 ∷ 0 ∷ 0 ∷ [])) marks_row marks

abbrev pub queue₁ : List (List ℕ)
queue₁ = with_loops (1 ∷ 0 ∷ 1 ∷ 0 ∷ 1 ∷ []) (0 ∷ 1 ∷ 0 ∷ 0 ∷ 0 ∷ [])

abbrev pub queue₂ : List (List ℕ)
queue₂ = with_loops (1 ∷ 1 ∷ 1 ∷ 0 ∷ 2 ∷ []) (0 ∷ 2 ∷ 0 ∷ 0 ∷ 0 ∷ [])

abbrev pub queue₃ : ℕ → List (List ℕ)
queue₃ epoch =
    set (set (with_loops (1 ∷ 1 ∷ 1 ∷ 0 ∷ 2 ∷ []) (1 ∷ 2 ∷ epoch ∷ 0 ∷ 0 ∷ [])) 5 (1 ∷ 2 ∷ 1 ∷ 2 ∷ 1 ∷ []))
    (root_rows + 1) (1 ∷ 2 ∷ 0 ∷ 0 ∷ 0 ∷ [])

-- Document 01's window, with this tag of its epoch.
abbrev pub window : ℕ → List ℕ
window epoch = 10000000 ∷ 2000000 ∷ 3000000 ∷ 0 ∷ 1 ∷ 2 ∷ 3 ∷ 0 ∷ epoch ∷ 0 ∷ 2000000 ∷ 3000000 ∷ []

-- What the selection answers: thread 1, the loop with the lower turn, its key and policy; what the three ask for; no
-- fair pass.
abbrev pub answer : List ℕ
answer = 1 ∷ 1 ∷ 1 ∷ 0 ∷ 2 ∷ 0 ∷ 11 ∷ 1 ∷ 11 ∷ 2 ∷ 0 ∷ 1 ∷ 1 ∷ 1 ∷ 1 ∷ 1 ∷ 0 ∷ 0 ∷ 0 ∷ []

-- The boards.
abbrev pub board : Board
board = record { queue = queue; rows = rows; queued = nobody }

abbrev pub board₁ : Board
board₁ = left 0 queue₁ rows₁ board.queued (including 0 board.queued)

abbrev pub board₂ : Board
board₂ = left 0 queue₂ rows₂ board₁.queued (including 1 board₁.queued)

abbrev pub board₃ : Board
board₃ = left 0 (queue₃ 0) (rows₃ 0) board₂.queued (including 2 board₂.queued)
