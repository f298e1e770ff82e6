-- Demand 3 over the words that a board lends: what a board is, what a step of it is, and what is claimed of a
-- selection. A step is what an entry's contract says of the words before and after (`Enqueues` and the others, crate
-- board), so nothing is asked of a board but that it calls the entries.
use Rattle.std.specs.Prelude.{ℕ, ◌≤◌, ◌<◌, ◌≡◌, Bool, true, List, [], length, get_or, eqb}
use Rattle.refusal.specs.Cases.{choose}
use Rattle.window_words.specs.WindowWords.{flag_from, window_of}
use Rattle.rows.specs.Table.{table, max_records}
use Rattle.lent_queue.specs.LentQueue.{queue_of}
use Rattle.board_words.specs.BoardWords.{selection_from, current_of}
use Rattle.board.specs.Board.{Makes, Enqueues, Removes, Selects}
use Rattle.sound_queue.specs.Sound.{nobody, including, excluding}
use Rattle.sound_selection.specs.Claim.{gathered_now, Premises, Names}

-- The queue's words, the table's rows, and who is queued: from its accepted enqueue to its accepted removal.
pub record Board : Type 0 where
  pub queue : List (List ℕ)
  pub rows : List (List ℕ)
  pub queued : ℕ → Bool

-- What `board_new` says of the queue's words, over any rows.
pub record New (b : Board) : Type 0 where
  pub makes : Makes 0 b.queue
  pub small : length b.rows ≤ max_records
  pub nobody_queued : b.queued ≡ nobody

-- The board after a call that answered n: accepted, it leaves `after` queued; refused, those that were.
abbrev pub left : ℕ → List (List ℕ) → List (List ℕ) → (ℕ → Bool) → (ℕ → Bool) → Board
left n q t queued after = record { queue = q; rows = t; queued = choose (eqb n 0) after queued }

-- One step of a board with one processor: a call, with any words and whatever it answers; or other rows, at most 4,096,
-- among which every queued thread's row is as it was.
pub data Step (cpu : ℕ) (b : Board) : Board → Type 0 where
  enqueues : (front : Bool) (id n : ℕ) (q t : List (List ℕ)) → Enqueues front b.queue b.rows id cpu n q t
      → Step cpu b (left n q t b.queued (including id b.queued))
  removes : (id n : ℕ) (q t : List (List ℕ)) → Removes b.queue b.rows id cpu n q t
      → Step cpu b (left n q t b.queued (excluding id b.queued))
  selects : (now running n : ℕ) (window current answer window₁ answer₁ : List ℕ) (q t : List (List ℕ))
      → Selects b.queue b.rows cpu now window running current answer n q t window₁ answer₁
      → Step cpu b (record { queue = q; rows = t; queued = b.queued })
  changes : (t : List (List ℕ)) → length t ≤ max_records
      → ((j : ℕ) → b.queued j ≡ true → (j < length t) × (get_or t j [] ≡ get_or b.rows j []))
      → Step cpu b (record { queue = b.queue; rows = t; queued = b.queued })

-- Any number of steps.
pub data Steps (cpu : ℕ) (a : Board) : Board → Type 0 where
  none : Steps cpu a a
  then : (b c : Board) → Steps cpu a b → Step cpu b c → Steps cpu a c

-- The premises of demand 3 on what the words stand for.
abbrev pub PremisesOn : Board → ℕ → List ℕ → Type 0
PremisesOn b now window = Premises b.queued (queue_of b.queue) (table b.rows) now (window_of window)

-- The selection is answered 0, and its answer's words have the demand of all queued threads and the current one, their
-- lowest fair pass, and of all queued threads the one with the least key under that demand (SPECIFICATION 13.2).
pub record Answers (b : Board) (now running : ℕ) (window current : List ℕ) (n : ℕ) (answer : List ℕ) : Type 0 where
  pub is : n ≡ 0
  pub demand : (selection_from answer).demand
      ≡ (gathered_now b.queued (table b.rows) now (current_of (flag_from running) current)).demand
  pub lowest : (selection_from answer).fair_min_pass
      ≡ (gathered_now b.queued (table b.rows) now (current_of (flag_from running) current)).fair_min_pass
  pub names : Names b.queued (table b.rows) (window_of window) now
      (gathered_now b.queued (table b.rows) now (current_of (flag_from running) current)).demand
      (selection_from answer).ready
