-- Images computed: what is loaded and stored, each refusal, and records that meet the theorems' premises.
use Rattle.std.specs.Prelude.{ℕ, zero, suc, ◌≡◌, refl, true, false, List, [], ◌∷◌, length, set, replicate}
use Rattle.std.proofs.Common.{arith}
use Rattle.refusal.specs.Cases.{choose, if_less, if_equal}
use Rattle.codec.specs.Codec.{decoded}
use Rattle.queue.specs.Queue.{new_queue}
use Rattle.images.specs.Fits.{All, IsWord, IsRow, RecordFits, QueueFits}
use Rattle.images.specs.Bytes.{low_bytes, bytes_of_word, word_of_bytes, pieces}
use Rattle.images.specs.Bytes.{bytes_of_words, words_of_bytes, bytes_of_rows}
use Rattle.images.specs.Encoded.{encoded_queue}
use Rattle.images.specs.Encodes.{zeros, option_encodes, policy_encodes, budget_encodes, runtime_encodes}
use Rattle.images.specs.Encodes.{membership_encodes, parameters_encode, links_encode, queue_links_encode}
use Rattle.images.specs.Encodes.{record_encodes, window_encodes, list_encodes, root_encodes, marks_encode}
use Rattle.images.specs.Encodes.{queue_row_encodes, all_from, queue_encodes, table_encodes}
use Rattle.images.specs.Exact.{decoded_fits}
use Rattle.images.specs.ExactQueue.{queue_encodes_lem}
use Rattle.images.specs.Images.{left, accepted, load_record, store_record, load_window, store_window}
use Rattle.images.specs.Images.{load_queue, store_queue, load_table, store_table}
use Rattle.images.specs.Saved.{record_saved, window_saved, queue_saved, table_saved}

-- The lowest byte stands first.
a_word : bytes_of_word 258 ≡ 2 ∷ 1 ∷ 0 ∷ 0 ∷ 0 ∷ 0 ∷ 0 ∷ 0 ∷ []
unfolding bytes_of_word low_bytes
a_word = refl

the_last_byte : word_of_bytes (0 ∷ 0 ∷ 0 ∷ 0 ∷ 0 ∷ 0 ∷ 0 ∷ 255 ∷ []) ≡ 18374686479671623680
unfolding word_of_bytes
the_last_byte = refl

-- A row of zeros is a FIFO thread's. Its numbers fit their types, and it meets the premises of a save.
abbrev plain : List ℕ
plain = replicate 32 0

all_zero : (n : ℕ) → All IsWord (replicate n 0)
all_zero zero = tt
all_zero (suc n) = (omega arith, all_zero n)

plain_fits : RecordFits (decoded plain)
plain_fits = decoded_fits plain

plain_passes : record_encodes plain ≡ true
unfolding record_encodes parameters_encode policy_encodes budget_encodes runtime_encodes links_encode queue_links_encode
    membership_encodes option_encodes zeros if_less if_equal choose
plain_passes = refl

plain_saved : (store_record plain (replicate 256 7) ≡ left 0 (bytes_of_words plain))
    × (load_record (bytes_of_words plain) (replicate 32 9) ≡ left 0 plain)
plain_saved = record_saved plain (replicate 256 7) (replicate 32 9) (refl, all_zero 32) plain_passes refl

-- A new queue has an image.
new_fits : QueueFits new_queue
new_fits = record { lists_fit = refl; roots_fit = refl }

new_passes : queue_encodes (encoded_queue new_queue) ≡ true
new_passes = queue_encodes_lem new_queue new_fits

-- A window of zeros, 270 rows of zeros, which are an empty queue, and a table of one row meet the premises too.
zeros_pass : window_encodes (replicate 12 0) ≡ true
unfolding window_encodes option_encodes if_less if_equal choose
zeros_pass = refl

zeros_saved : (store_window (replicate 12 0) (replicate 96 7) ≡ left 0 (bytes_of_words (replicate 12 0)))
    × (load_window (bytes_of_words (replicate 12 0)) plain ≡ left 0 (replicate 12 0))
zeros_saved = window_saved (replicate 12 0) (replicate 96 7) plain (refl, all_zero 12) zeros_pass refl

abbrev empty : List (List ℕ)
empty = replicate 270 (replicate 5 0)

all_empty : (n : ℕ) → All (IsRow 5) (replicate n (replicate 5 0))
all_empty zero = tt
all_empty (suc n) = ((refl, all_zero 5), all_empty n)

empty_passes : queue_encodes empty ≡ true
unfolding queue_encodes all_from queue_row_encodes list_encodes root_encodes marks_encode option_encodes zeros if_less
    if_equal
    choose
empty_passes = refl

empty_saved : (bytes : List ℕ) → length bytes ≡ 10800
    → (store_queue empty bytes ≡ left 0 (bytes_of_rows empty)) × (load_queue (bytes_of_rows empty) [] ≡ left 0 empty)
empty_saved bytes size = queue_saved empty bytes [] refl (all_empty 270) empty_passes size

one_passes : table_encodes (plain ∷ []) ≡ true
unfolding table_encodes all_from choose
one_passes = rw plain_passes

one_saved : (store_table (plain ∷ []) (replicate 256 7) ≡ left 0 (bytes_of_rows (plain ∷ [])))
    × (load_table (bytes_of_rows (plain ∷ [])) ([] ∷ []) ≡ left 0 (plain ∷ []))
one_saved =
    table_saved (plain ∷ []) (replicate 256 7) ([] ∷ []) (omega arith) refl ((refl, all_zero 32), tt) one_passes refl

-- One byte too few; a spare word that is not 0; and a Fair policy with a FIFO runtime, which encodes and is loaded.
too_short : load_record (replicate 255 0) plain ≡ left 10 plain
unfolding load_record accepted if_equal choose
too_short = refl

spare_used : load_record (set (replicate 256 0) 240 1) plain ≡ left 11 plain
unfolding load_record accepted words_of_bytes pieces word_of_bytes record_encodes parameters_encode policy_encodes
    budget_encodes
    runtime_encodes links_encode queue_links_encode membership_encodes option_encodes zeros if_less if_equal choose
spare_used = refl

kinds_apart : load_record (set (replicate 256 0) 0 1) plain ≡ left 0 (set plain 0 1)
unfolding load_record accepted words_of_bytes pieces word_of_bytes record_encodes parameters_encode policy_encodes
    budget_encodes
    runtime_encodes links_encode queue_links_encode membership_encodes option_encodes zeros if_less if_equal choose
kinds_apart = refl

-- A flag of 2; a window without a period, which encodes and is loaded.
flag_of_two : load_window (set (replicate 96 0) 56 2) plain ≡ left 5 plain
unfolding load_window accepted words_of_bytes pieces word_of_bytes window_encodes option_encodes if_less if_equal choose
flag_of_two = refl

no_period : load_window (replicate 96 0) plain ≡ left 0 (replicate 12 0)
unfolding load_window accepted words_of_bytes pieces word_of_bytes window_encodes option_encodes if_less if_equal choose
no_period = refl

-- The last word of a root's row is spare.
root_spare : queue_row_encodes 257 (0 ∷ 0 ∷ 0 ∷ 0 ∷ 1 ∷ []) ≡ false
unfolding queue_row_encodes root_encodes option_encodes zeros if_less if_equal choose
root_spare = refl
