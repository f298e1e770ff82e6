-- Load and store: the number that each answers and what it leaves. A wrong length is asked first, then what nothing
-- encodes to; on either the words, or the bytes, stay as they were.
use Rattle.std.specs.Prelude.{ℕ, ◌*◌, Bool, List, length}
use Rattle.refusal.specs.Answer.{damaged, bad_config, bad_table, bad_record}
use Rattle.refusal.specs.Cases.{choose, if_less, if_equal}
use Rattle.codec.specs.Codec.{row_words}
use Rattle.rows.specs.Table.{max_records}
use Rattle.window_words.specs.WindowWords.{window_word_count}
use Rattle.lent_queue.specs.LentQueue.{queue_rows}
use Rattle.images.specs.Bytes.{word_bytes, bytes_of_words, words_of_bytes, bytes_of_rows, rows_of_bytes}
use Rattle.images.specs.Encodes.{record_encodes, window_encodes, queue_encodes, table_encodes}

-- A queue row's words.
abbrev pub queue_row_words : ℕ
queue_row_words = 5

-- The number answered, 0 where it is made, and what is left.
pub data Left (A : Type 0) : Type 0 where
  left : ℕ → A → Left A

-- How many bytes there are and how many there must be; whether what is handed over encodes, and the number where it
-- does not; what is then stored, and what stood there.
unfoldable pub accepted : {A : Type 0} → ℕ → ℕ → Bool → ℕ → A → A → Left A
accepted have want encodes number new old =
    if_equal have want (choose encodes (left 0 new) (left number old)) (left bad_table old)

-- So many words, and so many rows of so many words, by their test and the number of its refusal.
abbrev pub load_words : ℕ → (List ℕ → Bool) → ℕ → List ℕ → List ℕ → Left (List ℕ)
load_words count encodes number bytes old =
    accepted (length bytes) (word_bytes * count) (encodes (words_of_bytes count bytes)) number
    (words_of_bytes count bytes)
    old

abbrev pub store_words : ℕ → (List ℕ → Bool) → ℕ → List ℕ → List ℕ → Left (List ℕ)
store_words count encodes number words bytes =
    accepted (length bytes) (word_bytes * count) (encodes words) number (bytes_of_words words) bytes

abbrev pub load_rows : ℕ → ℕ → (List (List ℕ) → Bool) → ℕ → List ℕ → List (List ℕ) → Left (List (List ℕ))
load_rows width count encodes number bytes old =
    accepted (length bytes) (word_bytes * width * count) (encodes (rows_of_bytes width count bytes)) number
    (rows_of_bytes width count bytes) old

abbrev pub store_rows : ℕ → ℕ → (List (List ℕ) → Bool) → ℕ → List (List ℕ) → List ℕ → Left (List ℕ)
store_rows width count encodes number rows bytes =
    accepted (length bytes) (word_bytes * width * count) (encodes rows) number (bytes_of_rows rows) bytes

-- SPECIFICATION 5.6.
unfoldable pub load_record : List ℕ → List ℕ → Left (List ℕ)
load_record bytes row = load_words row_words record_encodes bad_record bytes row

unfoldable pub store_record : List ℕ → List ℕ → Left (List ℕ)
store_record row bytes = store_words row_words record_encodes bad_record row bytes

unfoldable pub load_window : List ℕ → List ℕ → Left (List ℕ)
load_window bytes window = load_words window_word_count window_encodes bad_config bytes window

unfoldable pub store_window : List ℕ → List ℕ → Left (List ℕ)
store_window window bytes = store_words window_word_count window_encodes bad_config window bytes

unfoldable pub load_queue : List ℕ → List (List ℕ) → Left (List (List ℕ))
load_queue bytes q = load_rows queue_row_words queue_rows queue_encodes damaged bytes q

unfoldable pub store_queue : List (List ℕ) → List ℕ → Left (List ℕ)
store_queue q bytes = store_rows queue_row_words queue_rows queue_encodes damaged q bytes

-- A table has 4,096 rows at most; the bytes are those of just its rows (SPECIFICATION 5.6).
unfoldable pub load_table : List ℕ → List (List ℕ) → Left (List (List ℕ))
load_table bytes t =
    if_less max_records (length t) (left bad_table t) (load_rows row_words (length t) table_encodes bad_record bytes t)

unfoldable pub store_table : List (List ℕ) → List ℕ → Left (List ℕ)
store_table t bytes =
    if_less max_records (length t) (left bad_table bytes)
    (store_rows row_words (length t) table_encodes bad_record t bytes)
