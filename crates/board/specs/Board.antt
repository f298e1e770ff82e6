-- What a call on lent words leaves: document 01's number, 0 where it was made, and what the lent words stand for. A
-- refusal leaves an answer's words standing for what they stood for.
use Rattle.std.specs.Prelude.{ℕ, ◌≡◌, Bool, ◌≢◌, List, Option, Some, None}
use Rattle.refusal.specs.Answer.{Answer, value, refused, queue_halted}
use Rattle.thread.specs.declared.CpuIndex.{CpuIndex}
use Rattle.thread.specs.declared.ThreadRecord.{ThreadRecord}
use Rattle.arbitration.specs.declared.Candidate.{Candidate}
use Rattle.arbitration.specs.declared.CpuWindow.{CpuWindow}
use Rattle.arbitration.specs.Calls.{With, with}
use Rattle.codec.specs.Codec.{word}
use Rattle.rows.specs.Table.{Out, out, table}
use Rattle.queue.specs.RunQueue.{CpuRunQueue}
use Rattle.queue.specs.Queue.{Step, step, new_queue, enqueue_call, remove_call, real_time_len, fair_len, budget_len}
use Rattle.lent_queue.specs.LentQueue.{queue_of}
use Rattle.selection.specs.declared.Selection.{Selection}
use Rattle.selection.specs.Peek.{Peeked, peeked, peek_next}
use Rattle.board_words.specs.BoardWords.{selection_from, current_of}
use Rattle.decisions.specs.declared.Turns.{Turns}
use Rattle.runtime.specs.Prepare.{Counted, counted}
use Rattle.window_words.specs.WindowWords.{flag_from, window_of}
use Rattle.dispatch_keys.specs.declared.DispatchKey.{DispatchKey}
use Rattle.arbitration.specs.declared.DispatchMode.{DispatchMode}

pub data Left (A : Type 0) : Type 0 where
  left : ℕ → A → Left A

-- 0, or the number of a refusal.
abbrev pub numbered : {A : Type 0} → Answer A → ℕ
numbered (value a) = 0
numbered (refused n) = n

-- A refused call leaves the words as they were, every one (SPECIFICATION 11.2).
abbrev pub Stays : {B : Type 0} → ℕ → B → B → Type 0
Stays n before after = n ≢ 0 → after ≡ before

-- So does one that is refused with another number than Halted: a first Halted leaves the source's stores up to there.
-- (SPECIFICATION 11.2).
abbrev pub Spares : {B : Type 0} → ℕ → B → B → Type 0
Spares n before after = n ≢ 0 → n ≢ queue_halted → after ≡ before

-- The answer; a refusal leaves what was there.
unfoldable pub answered : {A : Type 0} → A → Answer A → Left A
answered before (value a) = left 0 a
answered before (refused n) = left n before

unfoldable pub beside : {A B : Type 0} → Left A → B → Left (A × B)
beside (left n a) b = left n (a, b)

abbrev pub processor : ℕ → CpuIndex
processor n = record { 0 = n }

-- The version of the header that the entries go with.
abbrev pub board_version : ℕ
board_version = 1

-- The queue and the table.
unfoldable pub queue_left : Out (Step (Unit {0})) → Left (CpuRunQueue × List ThreadRecord)
queue_left (out (step a q) t) = left (numbered a) (q, t)

-- What the entries of the queue say of the words before and after: the number n that is answered, and what is left.
abbrev pub Makes : ℕ → List (List ℕ) → Type 0
Makes n q₁ = left n (queue_of q₁) ≡ left 0 new_queue

abbrev pub Enqueues : Bool → List (List ℕ) → List (List ℕ) → ℕ → ℕ → ℕ → List (List ℕ) → List (List ℕ) → Type 0
Enqueues front q t id cpu n q₁ t₁ =
    left n (queue_of q₁, table t₁) ≡ queue_left (enqueue_call front (table t) (queue_of q) id (processor cpu))

abbrev pub Removes : List (List ℕ) → List (List ℕ) → ℕ → ℕ → ℕ → List (List ℕ) → List (List ℕ) → Type 0
Removes q t id cpu n q₁ t₁ =
    left n (queue_of q₁, table t₁) ≡ queue_left (remove_call (table t) (queue_of q) id (processor cpu))

-- How many FIFO, Fair and Budget threads are queued.
abbrev pub real_time_length : ℕ
real_time_length = 0

abbrev pub fair_length : ℕ
fair_length = 1

abbrev pub budget_length : ℕ
budget_length = 2

unfoldable pub lengths_of : List ℕ → ℕ × ℕ × ℕ
lengths_of w = (word w real_time_length, word w fair_length, word w budget_length)

abbrev pub lengths : CpuRunQueue → ℕ × ℕ × ℕ
lengths q = (real_time_len q, fair_len q, budget_len q)

-- The selection, the window, the queue and the table.
unfoldable pub selection_left : Selection → Out (Peeked CpuRunQueue)
    → Left (Selection × (CpuWindow × CpuRunQueue × List ThreadRecord))
selection_left before (out (peeked a w q) t) = beside (answered before a) (w, q, t)

-- What a selection says, with the words of window, running thread and answer.
abbrev pub Selects : List (List ℕ) → List (List ℕ) → ℕ → ℕ → List ℕ → ℕ → List ℕ → List ℕ → ℕ → List (List ℕ)
    → List (List ℕ) → List ℕ → List ℕ → Type 0
Selects q t cpu now window running current answer n q₁ t₁ window₁ answer₁ =
    left n (selection_from answer₁, (window_of window₁, queue_of q₁, table t₁))
    ≡ selection_left (selection_from answer)
    (peek_next (table t) (queue_of q) (processor cpu) now (window_of window) (current_of (flag_from running) current))

-- The key and the window.
unfoldable pub key_left : Option (DispatchKey × DispatchMode) → With (Option (DispatchKey × DispatchMode))
    → Left ((Option (DispatchKey × DispatchMode)) × CpuWindow)
key_left before (with a w) = beside (answered before a) w

-- The counters and the table.
unfoldable pub prepare_left : Out Counted → Left (Turns × List ThreadRecord)
prepare_left (out (counted a c) t) = left (numbered a) (c, t)

-- The window and the table.
unfoldable pub account_left : Out (With (Unit {0})) → Left (CpuWindow × List ThreadRecord)
account_left (out (with a w) t) = left (numbered a) (w, t)

unfoldable pub finish_left : Out (Answer (Unit {0})) → Left (List ThreadRecord)
finish_left (out a t) = left (numbered a) t

-- Where the thread is not running there is no candidate, and its words stay.
unfoldable pub candidate_over : Candidate → Answer (Option Candidate) → Left Candidate
candidate_over before (value (Some c)) = left 0 c
candidate_over before (value None) = left 0 before
candidate_over before (refused n) = left n before

-- The candidate and the table.
unfoldable pub candidate_left : Candidate → Out (Answer (Option Candidate)) → Left (Candidate × List ThreadRecord)
candidate_left before (out a t) = beside (candidate_over before a) t

-- One flag.
abbrev pub flag_word : ℕ
flag_word = 0

unfoldable pub flag_of : List ℕ → Bool
flag_of w = flag_from (word w flag_word)

-- The deadline, the window and the table.
unfoldable pub deadline_left : Option ℕ → Out (With (Option ℕ)) → Left ((Option ℕ) × (CpuWindow × List ThreadRecord))
deadline_left before (out (with a w) t) = beside (answered before a) (w, t)
