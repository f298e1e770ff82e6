-- Demand 3 over the words that a board lends: from `board_new`'s words on, whatever calls are made for one processor
-- and whatever becomes of rows that are not queued.
use Rattle.std.specs.Prelude.{ℕ, ◌≤◌, ◌<◌, ◌≡◌, refl, Bool, List, [], ◌∷◌, length, get_or, Ok}
use Rattle.std.proofs.Common.{sym, ap, ◌∙◌, subst, arith, ne_eqb}
use Rattle.std.proofs.lemmas.List.{length-map}
use Rattle.std.proofs.Math.ListN.{get_or-map}
use Rattle.refusal.specs.Answer.{value, refused}
use Rattle.refusal.specs.Cases.{choose}
use Rattle.thread.specs.declared.ThreadRecord.{ThreadRecord}
use Rattle.arbitration.specs.declared.CpuWindow.{CpuWindow}
use Rattle.window_words.specs.WindowWords.{flag_from, window_of}
use Rattle.codec.specs.Codec.{decoded}
use Rattle.rows.specs.Table.{Out, out, table, record_of, record_at, max_records}
use Rattle.rows.specs.TableLaws.{record_within}
use Rattle.queue.specs.RunQueue.{CpuRunQueue}
use Rattle.queue.specs.Queue.{step, new_queue, enqueue_call, remove_call}
use Rattle.queue.specs.Queue as queue
use Rattle.lent_queue.specs.LentQueue.{queue_of}
use Rattle.selection.specs.declared.Selection.{Selection}
use Rattle.selection.specs.Peek.{Peeked, peeked, peek_next}
use Rattle.board_words.specs.BoardWords.{selection_from, current_of}
use Rattle.board.specs.Board.{Left, left, processor, queue_left, answered, beside, selection_left}
use Rattle.board.specs.Board.{Selects}
use Rattle.sound_queue.specs.SoundLaws.{queued_inside}
use Rattle.sound_queue.proofs.Calls.{rows_fit}
use Rattle.sound_selection.specs.Claim.{Call, enqueue_at, remove_at, select_at, change_to, State, left_by}
use Rattle.sound_selection.specs.Claim.{left_by_selection}
use Rattle.sound_selection.specs.Claim.{after, Allowed, after_all, fresh, Answered}
use Rattle.sound_selection.proofs.Demand3.{SoundIn, fresh_sound, calls_sound}
use Rattle.sound_selection.proofs.Guarantee.{one_selection}
use Rattle.sound_board.specs.Numbers.{NumberedStep, enqueue_numbered, remove_call_numbered}
use Rattle.sound_board.specs.Claim.{Board, New, Step, Steps, none, then, enqueues, removes, selects, changes}
use Rattle.sound_board.specs.Claim.{PremisesOn, Answers}
use Rattle.sound_board.specs.Claim as board·

-- What a board's words stand for.
abbrev pub state_of : Board → State
state_of b = record { queue = queue_of b.queue; table = table b.rows; queued = b.queued }

rows_length : (rows : List (List ℕ)) → length (table rows) ≡ length rows
unfolding table
rows_length rows = length-map rows decoded

rows_small : (rows : List (List ℕ)) → length rows ≤ max_records → length (table rows) ≤ max_records
rows_small rows l = omega (arith, rows_length rows)

-- What an entry leaves, as its contract puts it.
abbrev held : {A : Type 0} → Left A → A
held (left n a) = a

abbrev said : {A : Type 0} → Left A → ℕ
said (left n a) = n

abbrev Pair : Type 0
Pair = CpuRunQueue × List ThreadRecord

abbrev All : Type 0
All = Selection × (CpuWindow × CpuRunQueue × List ThreadRecord)

abbrev whole : Selection → CpuWindow → CpuRunQueue → List ThreadRecord → All
whole a w q t = (a, (w, q, t))

-- A call of the queue that answered n and left these words left what the definition leaves.
call_left : (o : Out (queue.Step (Unit {0}))) (queued after : ℕ → Bool) (n : ℕ) (q t : List (List ℕ)) → NumberedStep o
    → left n (queue_of q, table t) ≡ queue_left o → left_by o queued after ≡ state_of (board·.left n q t queued after)
unfolding queue_left choose
call_left (out (step (value u) r) s) queued after n q t h e =
    rw (
      ap (λ (x : Left Pair). said x) e,
      ap (λ (x : Left Pair). (held x).0) e,
      ap (λ (x : Left Pair). (held x).1) e,
    ) refl
call_left (out (step (refused m) r) s) queued after n q t h e =
    rw (
      ap (λ (x : Left Pair). (held x).0) e,
      ap (λ (x : Left Pair). (held x).1) e,
      ne_eqb n 0 (λ z. h (sym (ap (λ (x : Left Pair). said x) e) ∙ z)),
    ) refl

-- So did a selection.
select_left : (o : Out (Peeked CpuRunQueue)) (queued : ℕ → Bool) (before answer : Selection) (w : CpuWindow) (n : ℕ)
    (q t : List (List ℕ)) → left n (answer, (w, queue_of q, table t)) ≡ selection_left before o
    → left_by_selection o queued ≡ state_of (record { queue = q; rows = t; queued = queued })
unfolding selection_left answered beside
select_left (out (peeked (value a) v r) s) queued before answer w n q t e =
    rw (ap (λ (x : Left All). (held x).1.1) e, ap (λ (x : Left All). (held x).1.2) e) refl
select_left (out (peeked (refused m) v r) s) queued before answer w n q t e =
    rw (ap (λ (x : Left All). (held x).1.1) e, ap (λ (x : Left All). (held x).1.2) e) refl

-- A queued thread's row stands for the record that it stood for.
row_kept : (s t : List (List ℕ)) (j : ℕ) → j < length s → j < length t → get_or s j [] ≡ get_or t j []
    → record_at (table s) j ≡ record_at (table t) j
unfolding table record_of
row_kept s t j l m e =
    record_within (table s) j (omega (arith, rows_length s))
    ∙ ap (λ (r : ThreadRecord). Ok r)
    (get_or-map decoded s j [] ∙ ap decoded e ∙ sym (get_or-map decoded t j []))
    ∙ sym (record_within (table t) j (omega (arith, rows_length t)))

-- A new board stands for a fresh queue, and every step of a board is a call of demand 3's list: so its words stand for
-- a sound queue.
abbrev pub SoundOn : ℕ → Board → Type 0
SoundOn cpu b = SoundIn (processor cpu) (state_of b)

new_board : (cpu : ℕ) (b : Board) → New b → SoundOn cpu b
unfolding after_all
new_board cpu b N =
    rw (ap (λ (x : Left CpuRunQueue). held x) N.makes, N.nobody_queued)
    (calls_sound (processor cpu) [] (fresh (table b.rows))
    (fresh_sound (processor cpu) (table b.rows) (rows_small b.rows N.small) (λ i l. rows_fit b.rows i)) tt)

one_call : (cpu : ℕ) (b c : Board) (call : Call) → SoundOn cpu b → Allowed call (state_of b)
    → after (processor cpu) call (state_of b) ≡ state_of c → SoundOn cpu c
unfolding after_all
one_call cpu b c call S a e =
    subst (SoundIn (processor cpu)) e
    (calls_sound (processor cpu) (call ∷ []) (state_of b) S (record { this = a; rest = tt }))

step_sound : (cpu : ℕ) (b : Board) {c : Board} → SoundOn cpu b → Step cpu b c → SoundOn cpu c
unfolding after
step_sound cpu b S (enqueues front id n q t h) =
    one_call cpu b _ (enqueue_at front id) S tt
    (call_left (enqueue_call front (table b.rows) (queue_of b.queue) id (processor cpu)) b.queued _ n q t
    (enqueue_numbered front (table b.rows) (queue_of b.queue) id (processor cpu)) h)
step_sound cpu b S (removes id n q t h) =
    one_call cpu b _ (remove_at id) S tt
    (call_left (remove_call (table b.rows) (queue_of b.queue) id (processor cpu)) b.queued _ n q t
    (remove_call_numbered (table b.rows) (queue_of b.queue) id (processor cpu)) h)
step_sound cpu b S (selects now running n window current answer window₁ answer₁ q t h) =
    one_call cpu b _ (select_at now (window_of window) (current_of (flag_from running) current)) S tt
    (select_left (peek_next (table b.rows) (queue_of b.queue) (processor cpu) now (window_of window)
    (current_of (flag_from running) current)) b.queued (selection_from answer) (selection_from answer₁)
    (window_of window₁) n q t h)
step_sound cpu b S (changes t l h) =
    one_call cpu b _ (change_to (table t)) S (
      rows_small t l,
      λ j e. row_kept t b.rows j (h j e).0
          (omega (arith, rows_length b.rows, queued_inside S.sound j e)) (h j e).1,
      λ i m. rows_fit t i,
    ) refl

pub steps_sound : (cpu : ℕ) (a : Board) {b : Board} → SoundOn cpu a → Steps cpu a b → SoundOn cpu b
steps_sound cpu a S none = S
steps_sound cpu a S (then b c p s) = step_sound cpu b (steps_sound cpu a S p) s

-- What a selection's contract says where the definition answers.
answers : (b : Board) (now running : ℕ) (window current answer : List ℕ) (n : ℕ) (window₁ answer₁ : List ℕ)
    (q t : List (List ℕ)) (o : Out (Peeked CpuRunQueue))
    → Answered b.queued (table b.rows) now (window_of window) (current_of (flag_from running) current) o
    → left n (selection_from answer₁, (window_of window₁, queue_of q, table t))
    ≡ selection_left (selection_from answer) o
    → Answers b now running window current n answer₁
unfolding selection_left answered beside
answers b now running window current answer n window₁ answer₁ q t o A h =
    let z : left n (whole (selection_from answer₁) (window_of window₁) (queue_of q) (table t))
    ≡ left 0 (whole A.selection A.window A.queue A.table) =
    h ∙ ap (selection_left (selection_from answer)) A.is in
    let y : selection_from answer₁ ≡ A.selection = ap (λ (x : Left All). (held x).0) z in
    record {
      is = ap (λ (x : Left All). said x) z;
      demand = rw y A.demand;
      lowest = rw y A.lowest;
      names = rw y A.names;
    }

-- DEMAND 3 OVER WORDS. From the words that `board_new` leaves and any rows, after any calls for one processor and any
-- change of rows that are not queued, `board_select` under the premises answers 0, and its answer's words name, of all
-- queued threads, the one with the least dispatch key.
pub demand_3_words : (cpu : ℕ) (a b : Board) → New a → Steps cpu a b
    → (now running : ℕ) (window current answer : List ℕ) → PremisesOn b now window
    → (n : ℕ) (q t : List (List ℕ)) (window₁ answer₁ : List ℕ)
    → Selects b.queue b.rows cpu now window running current answer n q t window₁ answer₁
    → Answers b now running window current n answer₁
demand_3_words cpu a b N p now running window current answer P n q t window₁ answer₁ h =
    let S = steps_sound cpu a (new_board cpu a N) p in
    answers b now running window current answer n window₁ answer₁ q t _
    (one_selection S.sound S.one now (window_of window) (current_of (flag_from running) current) P).0 h
