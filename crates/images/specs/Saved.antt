-- What is stored is loaded again as it was, and what is loaded is stored again as it was; and what is loaded is exactly
-- the encodings.
use Rattle.std.specs.Prelude.{ℕ, suc, ◌*◌, ◌≤◌, ◌≡◌, Bool, true, false, eqb, ltb, replicate}
use Rattle.std.proofs.Common.{arith, sym, ap, ◌∙◌, length-append, eqb-true, eq-eqb, ltb-false}
use Rattle.std.proofs.Math.Path.{refl}
use mathlib.Core.List.{List, map}
use Rattle.std.proofs.Math.ListN.{length}
use Rattle.std.proofs.lemmas.List.{length-map}
use Rattle.refusal.specs.Answer.{damaged, bad_config, bad_table, bad_record}
use Rattle.refusal.specs.Cases.{choose, if_less, if_equal, never, not_less}
use Rattle.thread.specs.declared.ThreadRecord.{ThreadRecord}
use Rattle.arbitration.specs.declared.CpuWindow.{CpuWindow}
use Rattle.queue.specs.RunQueue.{CpuRunQueue}
use Rattle.codec.specs.Codec.{row_words, decoded}
use Rattle.rows.specs.Table.{max_records, table}
use Rattle.window_words.specs.WindowWords.{window_word_count, window_of}
use Rattle.lent_queue.specs.LentQueue.{queue_rows, queue_of}
use Rattle.images.specs.Fits.{All, IsByte, IsWord, IsRow, RecordFits, WindowFits, QueueFits}
use Rattle.images.specs.Bytes.{word_bytes, bytes_of_words, words_of_bytes, bytes_of_rows, rows_of_bytes}
use Rattle.images.specs.Encoded.{encoded, encoded_window, list_words, root_words, encoded_queue}
use Rattle.images.specs.Exact.{record_exact, record_encodes_lem, record_stands}
use Rattle.images.specs.Exact.{window_exact, window_encodes_lem, window_stands}
use Rattle.images.specs.Exact.{table_exact, table_encodes_lem, table_stands}
use Rattle.images.specs.ExactQueue.{queue_exact, queue_encodes_lem, queue_stands}
use Rattle.images.specs.Encodes.{record_encodes, window_encodes, queue_encodes, table_encodes}
use Rattle.images.specs.Images.{Left, left, accepted, queue_row_words, load_words, store_words, load_rows, store_rows}
use Rattle.images.specs.Images.{load_record, store_record, load_window, store_window, load_queue, store_queue}
use Rattle.images.specs.Images.{load_table, store_table}
use Rattle.images.specs.RoundTrip.{words_length, words_back, words_again}
use Rattle.images.specs.RoundTrip.{rows_size, rows_back, rows_again, words_count, rows_wide}
use Rattle.images.specs.BytesLaws.{rows_length}

-- What is taken.
takes : {A : Type 0} (have want : ℕ) (x : Bool) (number : ℕ) (new old : A) → have ≡ want → x ≡ true
    → accepted have want x number new old ≡ left 0 new
unfolding accepted if_equal choose
takes have want x number new old e f = rw (eq-eqb have want e, f)

-- And what was taken where it was.
record Taken {A : Type 0} (have want : ℕ) (x : Bool) (new y : A) : Type 0 where
  right_length : have ≡ want
  encodes : x ≡ true
  stored : new ≡ y

took_by : {A : Type 0} (s x : Bool) (have want number : ℕ) (new old y : A) → eqb have want ≡ s → (number ≡ 0 → ⊥)
    → choose s (choose x (left 0 new) (left number old)) (left bad_table old) ≡ left 0 y → Taken have want x new y
unfolding choose
took_by true true have want number new old y e p h =
    record { right_length = eqb-true have want e; encodes = refl; stored = cc }
took_by true false have want number new old y e p h =
    let zero_number : number ≡ 0 = cc in
    absurd (p zero_number)
took_by false x have want number new old y e p h =
    let zero_number : ◌≡◌ {A = ℕ} 10 0 = cc in
    absurd (omega arith)

took : {A : Type 0} (have want : ℕ) (x : Bool) (number : ℕ) (new old y : A) → (number ≡ 0 → ⊥)
    → accepted have want x number new old ≡ left 0 y → Taken have want x new y
unfolding accepted if_equal
took have want x number new old y p h = took_by (eqb have want) x have want number new old y refl p h

-- A refusal leaves what stood there.
refused_by : {A : Type 0} (s x : Bool) (number n : ℕ) (new old y : A)
    → choose s (choose x (left 0 new) (left number old)) (left bad_table old) ≡ left (suc n) y → y ≡ old
unfolding choose
refused_by true true number n new old y h = never (cc)
refused_by true false number n new old y h = cc
refused_by false x number n new old y h = cc

pub refused_leaves : {A : Type 0} (have want : ℕ) (x : Bool) (number n : ℕ) (new old y : A)
    → accepted have want x number new old ≡ left (suc n) y → y ≡ old
unfolding accepted if_equal
refused_leaves have want x number n new old y h = refused_by (eqb have want) x number n new old y h

too_many_by : {A : Type 0} (s : Bool) (n : ℕ) (old y : A) (x : Left A) → (x ≡ left (suc n) y → y ≡ old)
    → choose s (left bad_table old) x ≡ left (suc n) y → y ≡ old
unfolding choose
too_many_by true n old y x f h = cc
too_many_by false n old y x f h = f h

pub table_load_leaves : (bytes : List ℕ) (old t : List (List ℕ)) (n : ℕ) → load_table bytes old ≡ left (suc n) t
    → t ≡ old
unfolding load_table if_less
table_load_leaves bytes old t n h =
    too_many_by (ltb max_records (length old)) n old t
    (load_rows row_words (length old) table_encodes bad_record bytes old)
    (refused_leaves (length bytes) (word_bytes * row_words * length old)
    (table_encodes (rows_of_bytes row_words (length old) bytes)) bad_record n
    (rows_of_bytes row_words (length old) bytes) old
    t)
    h

pub table_store_leaves : (t : List (List ℕ)) (bytes after : List ℕ) (n : ℕ) → store_table t bytes ≡ left (suc n) after
    → after ≡ bytes
unfolding store_table if_less
table_store_leaves t bytes after n h =
    too_many_by (ltb max_records (length t)) n bytes after
    (store_rows row_words (length t) table_encodes bad_record t bytes)
    (refused_leaves (length bytes) (word_bytes * row_words * length t) (table_encodes t) bad_record n
    (bytes_of_rows t) bytes
    after) h

-- Words, and rows, whatever their test.
module _ (count number : ℕ) (test : List ℕ → Bool) where
  saved_words : (w bytes old : List ℕ) → IsRow count w → test w ≡ true → length bytes ≡ word_bytes * count
      → (store_words count test number w bytes ≡ left 0 (bytes_of_words w))
      × (load_words count test number (bytes_of_words w) old ≡ left 0 w)
  saved_words w bytes old is h size =
      let back : words_of_bytes count (bytes_of_words w) ≡ w = rw is.0 at (words_back w is.1) in
      let long : length (bytes_of_words w) ≡ word_bytes * count =
      words_length w is.1 ∙ ap (λ n. word_bytes * n) is.0 in (
        takes (length bytes) (word_bytes * count) (test w) number (bytes_of_words w) bytes size h,
        rw back (takes (length (bytes_of_words w)) (word_bytes * count) (test w) number w old long h),
      )

  module _ (bytes old w : List ℕ) (refuses : number ≡ 0 → ⊥)
      (h : load_words count test number bytes old ≡ left 0 w) where
    took_words : Taken (length bytes) (word_bytes * count) (test (words_of_bytes count bytes))
        (words_of_bytes count bytes) w
    took_words =
        took (length bytes) (word_bytes * count) (test (words_of_bytes count bytes)) number
        (words_of_bytes count bytes) old
        w refuses h

    restored_words : (room : List ℕ) → All IsByte bytes → length room ≡ word_bytes * count
        → store_words count test number w room ≡ left 0 bytes
    restored_words room is size =
        rw (← took_words.stored) (takes (length room) (word_bytes * count) (test (words_of_bytes count bytes)) number
        (bytes_of_words (words_of_bytes count bytes)) room size took_words.encodes
        ∙ ap (left 0) (words_again count bytes is took_words.right_length))

    loaded_words : (length w ≡ count) × (test w ≡ true)
    loaded_words = rw (← took_words.stored) (words_count count bytes, took_words.encodes)

module _ (width count number : ℕ) (test : List (List ℕ) → Bool) where
  saved_rows : (rows : List (List ℕ)) (bytes : List ℕ) (old : List (List ℕ)) → length rows ≡ count
      → All (IsRow width) rows → test rows ≡ true → length bytes ≡ word_bytes * width * count
      → (store_rows width count test number rows bytes ≡ left 0 (bytes_of_rows rows))
      × (load_rows width count test number (bytes_of_rows rows) old ≡ left 0 rows)
  saved_rows rows bytes old many is h size =
      let back : rows_of_bytes width count (bytes_of_rows rows) ≡ rows = rw many at (rows_back width rows is) in
      let long : length (bytes_of_rows rows) ≡ word_bytes * width * count =
      rows_size width rows is ∙ ap (λ n. word_bytes * width * n) many in (
        takes (length bytes) (word_bytes * width * count) (test rows) number (bytes_of_rows rows) bytes size h,
        rw back (takes (length (bytes_of_rows rows)) (word_bytes * width * count) (test rows) number rows old long h),
      )

  module _ (bytes : List ℕ) (old rows : List (List ℕ)) (refuses : number ≡ 0 → ⊥)
      (h : load_rows width count test number bytes old ≡ left 0 rows) where
    took_rows : Taken (length bytes) (word_bytes * width * count) (test (rows_of_bytes width count bytes))
        (rows_of_bytes width count bytes) rows
    took_rows =
        took (length bytes) (word_bytes * width * count) (test (rows_of_bytes width count bytes)) number
        (rows_of_bytes width count bytes) old rows refuses h

    restored_rows : (room : List ℕ) → All IsByte bytes → length room ≡ word_bytes * width * count
        → store_rows width count test number rows room ≡ left 0 bytes
    restored_rows room is size =
        rw (← took_rows.stored) (takes (length room) (word_bytes * width * count)
        (test (rows_of_bytes width count bytes))
        number (bytes_of_rows (rows_of_bytes width count bytes)) room size took_rows.encodes
        ∙ ap (left 0) (rows_again width count bytes is took_rows.right_length))

    loaded_rows : (length rows ≡ count) × All (λ (r : List ℕ). length r ≡ width) rows × (test rows ≡ true)
    loaded_rows =
        rw (← took_rows.stored) (rows_length width count bytes, rows_wide width count bytes, took_rows.encodes)

-- A record. Words that encode are stored, and loaded again they are the same.
pub record_saved : (w bytes row : List ℕ) → IsRow row_words w → record_encodes w ≡ true
    → length bytes ≡ word_bytes * row_words
    → (store_record w bytes ≡ left 0 (bytes_of_words w)) × (load_record (bytes_of_words w) row ≡ left 0 w)
unfolding store_record load_record
record_saved = saved_words row_words bad_record record_encodes

-- Bytes that are loaded are stored again as they were, and what they are loaded to is the encoding of its record.
module _ (bytes row w : List ℕ) (h : load_record bytes row ≡ left 0 w) where
  pub record_restored : (room : List ℕ) → All IsByte bytes → length room ≡ word_bytes * row_words
      → store_record w room ≡ left 0 bytes
  unfolding store_record load_record
  record_restored = restored_words row_words bad_record record_encodes bytes row w (λ z. absurd (omega arith)) h

  pub record_loaded : encoded (decoded w) ≡ w
  unfolding load_record
  record_loaded =
      let l : (length w ≡ row_words) × (record_encodes w ≡ true) =
      loaded_words row_words bad_record record_encodes bytes row w (λ z. absurd (omega arith)) h in
      record_exact w l.0 l.1

row_size : (r : ThreadRecord) → length (encoded r) ≡ row_words
unfolding encoded
row_size r = refl

-- Every record whose numbers fit their types is loaded from its image, to words that stand for it.
pub record_taken : (r : ThreadRecord) (row : List ℕ) → RecordFits r → All IsWord (encoded r)
    → (load_record (bytes_of_words (encoded r)) row ≡ left 0 (encoded r)) × (decoded (encoded r) ≡ r)
record_taken r row f is = (
  (record_saved (encoded r) (replicate (word_bytes * row_words) 0) row (row_size r, is)
      (record_encodes_lem r f) refl).1,
  record_stands r f,
)

-- The same of a window.
pub window_saved : (w bytes window : List ℕ) → IsRow window_word_count w → window_encodes w ≡ true
    → length bytes ≡ word_bytes * window_word_count
    → (store_window w bytes ≡ left 0 (bytes_of_words w)) × (load_window (bytes_of_words w) window ≡ left 0 w)
unfolding store_window load_window
window_saved = saved_words window_word_count bad_config window_encodes

module _ (bytes window w : List ℕ) (h : load_window bytes window ≡ left 0 w) where
  pub window_restored : (room : List ℕ) → All IsByte bytes → length room ≡ word_bytes * window_word_count
      → store_window w room ≡ left 0 bytes
  unfolding store_window load_window
  window_restored = restored_words window_word_count bad_config window_encodes bytes window w
      (λ z. absurd (omega arith)) h

  pub window_loaded : encoded_window (window_of w) ≡ w
  unfolding load_window
  window_loaded =
      let l : (length w ≡ window_word_count) × (window_encodes w ≡ true) =
      loaded_words window_word_count bad_config window_encodes bytes window w (λ z. absurd (omega arith)) h in
      window_exact w l.0 l.1

window_size : (w : CpuWindow) → length (encoded_window w) ≡ window_word_count
unfolding encoded_window
window_size w = refl

pub window_taken : (w : CpuWindow) (old : List ℕ) → WindowFits w → All IsWord (encoded_window w)
    → (load_window (bytes_of_words (encoded_window w)) old ≡ left 0 (encoded_window w))
    × (window_of (encoded_window w) ≡ w)
window_taken w old f is = (
  (window_saved (encoded_window w) (replicate (word_bytes * window_word_count) 0) old (window_size w, is)
      (window_encodes_lem w f)
      refl).1,
  window_stands w f,
)

-- The same of a queue.
pub queue_saved : (q : List (List ℕ)) (bytes : List ℕ) (old : List (List ℕ)) → length q ≡ queue_rows
    → All (IsRow queue_row_words) q → queue_encodes q ≡ true → length bytes ≡ word_bytes * queue_row_words * queue_rows
    → (store_queue q bytes ≡ left 0 (bytes_of_rows q)) × (load_queue (bytes_of_rows q) old ≡ left 0 q)
unfolding store_queue load_queue
queue_saved = saved_rows queue_row_words queue_rows damaged queue_encodes

module _ (bytes : List ℕ) (old q : List (List ℕ)) (h : load_queue bytes old ≡ left 0 q) where
  pub queue_restored : (room : List ℕ) → All IsByte bytes → length room ≡ word_bytes * queue_row_words * queue_rows
      → store_queue q room ≡ left 0 bytes
  unfolding store_queue load_queue
  queue_restored =
      restored_rows queue_row_words queue_rows damaged queue_encodes bytes old q (λ z. absurd (omega arith)) h

  pub queue_loaded : encoded_queue (queue_of q) ≡ q
  unfolding load_queue
  queue_loaded =
      let l : (length q ≡ queue_rows) × All (λ (r : List ℕ). length r ≡ queue_row_words) q × (queue_encodes q ≡ true) =
      loaded_rows queue_row_words queue_rows damaged queue_encodes bytes old q (λ z. absurd (omega arith)) h in
      queue_exact q l.0 l.1 l.2

queue_size : (q : CpuRunQueue) → QueueFits q → length (encoded_queue q) ≡ queue_rows
unfolding encoded_queue
queue_size q f =
    rw (
      length-append,
      length-map q.realtime list_words,
      length-append,
      length-map q.indices root_words,
      f.lists_fit,
      f.roots_fit,
    )

pub queue_taken : (q : CpuRunQueue) (old : List (List ℕ)) → QueueFits q → All (IsRow queue_row_words) (encoded_queue q)
    → (load_queue (bytes_of_rows (encoded_queue q)) old ≡ left 0 (encoded_queue q)) × (queue_of (encoded_queue q) ≡ q)
queue_taken q old f is = (
  (queue_saved (encoded_queue q) (bytes_of_rows (encoded_queue q)) old (queue_size q f) is (queue_encodes_lem q f)
      (rows_size queue_row_words (encoded_queue q) is ∙ ap (λ n. word_bytes * queue_row_words * n) (queue_size q f))).1,
  queue_stands q f,
)

-- The same of a table, into any with as many rows.
pub table_saved : (t : List (List ℕ)) (bytes : List ℕ) (old : List (List ℕ)) → length t ≤ max_records
    → length old ≡ length t → All (IsRow row_words) t → table_encodes t ≡ true
    → length bytes ≡ word_bytes * row_words * length t
    → (store_table t bytes ≡ left 0 (bytes_of_rows t)) × (load_table (bytes_of_rows t) old ≡ left 0 t)
unfolding store_table load_table
table_saved t bytes old few same is h size =
    let both : (store_rows row_words (length t) table_encodes bad_record t bytes ≡ left 0 (bytes_of_rows t))
    × (load_rows row_words (length t) table_encodes bad_record (bytes_of_rows t) old ≡ left 0 t) =
    saved_rows row_words (length t) bad_record table_encodes t bytes old refl is h size in (
      sym (not_less _ _ max_records (length t) few refl) ∙ both.0,
      rw same (sym (not_less _ _ max_records (length t) few refl) ∙ both.1),
    )

-- A table that is loaded has its 4,096 rows at most, and is loaded as rows.
few_by : {A : Type 0} (s : Bool) (n : ℕ) (old y : A) (x : Left A) → ltb max_records n ≡ s
    → choose s (left bad_table old) x ≡ left 0 y → (n ≤ max_records) × (x ≡ left 0 y)
unfolding choose
few_by true n old y x e h =
    let zero_number : ◌≡◌ {A = ℕ} 10 0 = cc in
    absurd (omega arith)
few_by false n old y x e h = (ltb-false max_records n e, h)

module _ (bytes : List ℕ) (old t : List (List ℕ)) (h : load_table bytes old ≡ left 0 t) where
  few : (length old ≤ max_records) × (load_rows row_words (length old) table_encodes bad_record bytes old ≡ left 0 t)
  unfolding load_table if_less
  few =
      few_by (ltb max_records (length old)) (length old) old t
      (load_rows row_words (length old) table_encodes bad_record bytes old) refl h

  as_rows : (length t ≡ length old) × All (λ (r : List ℕ). length r ≡ row_words) t × (table_encodes t ≡ true)
  as_rows = loaded_rows row_words (length old) bad_record table_encodes bytes old t (λ z. absurd (omega arith)) few.1

  pub table_restored : (room : List ℕ) → All IsByte bytes → length room ≡ word_bytes * row_words * length old
      → store_table t room ≡ left 0 bytes
  unfolding store_table
  table_restored room is size =
      rw as_rows.0 (sym (not_less _ _ max_records (length old) few.0 refl)
      ∙ restored_rows row_words (length old) bad_record table_encodes bytes old t (λ z. absurd (omega arith)) few.1 room
      is size)

  pub table_loaded : map encoded (table t) ≡ t
  table_loaded = table_exact t as_rows.1 as_rows.2

pub table_taken : (t : List ThreadRecord) (old : List (List ℕ)) → length t ≤ max_records → length old ≡ length t
    → All RecordFits t → All (IsRow row_words) (map encoded t)
    → (load_table (bytes_of_rows (map encoded t)) old ≡ left 0 (map encoded t)) × (table (map encoded t) ≡ t)
table_taken t old few same f is =
    let many : length (map encoded t) ≡ length t = length-map t encoded in (
      (table_saved (map encoded t) (bytes_of_rows (map encoded t)) old (omega arith) (omega arith) is
          (table_encodes_lem t f)
          (rows_size row_words (map encoded t) is)).1,
      table_stands t f,
    )
