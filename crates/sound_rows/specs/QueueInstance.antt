-- Rows of a queue to which the theorems apply, by computation; and a row that shows why they ask for an encoding.
use Rattle.std.specs.Prelude.{ℕ, ◌+◌, ◌≡◌, refl, true, false, List, [], ◌∷◌, get_or, set, replicate}
use Rattle.std.proofs.Common.{arith}
use Rattle.refusal.specs.Cases.{choose, if_less, if_equal}
use Rattle.policy_words.specs.Encodes.{zeros, option_encodes}
use Rattle.policy_words.specs.EncodeLaws.{none_encodes, some_encodes}
use Rattle.codec.specs.Codec.{word}
use Rattle.lent_queue.specs.LentQueue.{queue_rows, root_rows, marks_row, mark_word, halted_from}
use Rattle.lent_queue.specs.Frame.{spare_words, QueueFramed}
use Rattle.lent_queue.specs.FrameLaws.{real_time_framed, root_framed, mark_framed}
use Rattle.images.specs.Images.{queue_row_words}
use Rattle.images.specs.Encodes.{list_encodes, root_encodes, marks_encode, queue_row_encodes, all_from, queue_encodes}
use Rattle.sound_rows.specs.QueueRows.{queue_words, root_spare_kept, queue_stays, list_same, root_same, marks_same}

-- The definitions that the test of a queue's rows goes through.
unfoldable testing : Unit {0}
unfolding queue_encodes all_from queue_row_encodes list_encodes root_encodes marks_encode option_encodes zeros if_less
    if_equal choose
testing = tt

-- The rows of an empty queue, which encode, with a root stored to record 7: a queue's encoding before and after.
abbrev clear : List ℕ
clear = replicate queue_row_words 0

abbrev rows : List (List ℕ)
rows = replicate queue_rows clear

abbrev rooted : List ℕ
rooted = 1 ∷ 7 ∷ 0 ∷ 0 ∷ 0 ∷ []

rows_encode : queue_encodes rows ≡ true
unfolding testing
rows_encode = refl

pub rooted_encodes : queue_encodes (set rows (root_rows + 3) rooted) ≡ true
rooted_encodes =
    queue_stays rows (set rows (root_rows + 3) rooted) refl refl
    (root_framed rows rooted (some_encodes 7) 3 (omega arith) refl refl refl) rows_encode

-- An empty list stored once more.
pub list_again : queue_words (get_or (set rows 9 clear) 9 []) ≡ queue_words (get_or rows 9 [])
unfolding testing
list_again =
    list_same rows (set rows 9 clear) 9 (omega arith)
    (real_time_framed rows clear none_encodes none_encodes 9 (omega arith)) refl refl

-- Rows with numbers in the spare words of a root's row, which are no queue's encoding: a root stored there leaves them,
-- and the same root stored once more leaves the row.
abbrev used : List ℕ
used = 1 ∷ 7 ∷ 4 ∷ 5 ∷ 6 ∷ []

abbrev spared : List (List ℕ)
spared = set rows (root_rows + 3) used

pub spared_encodes_not : queue_encodes spared ≡ false
unfolding testing
spared_encodes_not = refl

abbrev emptied : List ℕ
emptied = 0 ∷ 0 ∷ 4 ∷ 5 ∷ 6 ∷ []

pub spare_left : spare_words (get_or (set spared (root_rows + 3) emptied) (root_rows + 3) []) ≡ 4 ∷ 5 ∷ 6 ∷ []
spare_left =
    root_spare_kept spared (set spared (root_rows + 3) emptied) 3 (omega arith)
    (root_framed spared emptied none_encodes 3 (omega arith) refl refl refl)

pub root_again : queue_words (get_or (set spared (root_rows + 3) used) (root_rows + 3) [])
    ≡ queue_words (get_or spared (root_rows + 3) [])
root_again =
    root_same spared (set spared (root_rows + 3) used) 3 (omega arith)
    (root_framed spared used (some_encodes 7) 3 (omega arith) refl refl refl) (some_encodes 7) refl

-- The mark of a queue that halted stored once more.
abbrev halted : List ℕ
halted = 2 ∷ 1 ∷ 1 ∷ 5 ∷ 1 ∷ []

abbrev marked : List (List ℕ)
marked = set rows marks_row halted

pub mark_again : queue_words (get_or (set marked marks_row halted) marks_row [])
    ≡ queue_words (get_or marked marks_row [])
unfolding testing
mark_again =
    marks_same marked (set marked marks_row halted) (mark_framed marked halted refl refl refl refl) refl refl refl refl
    refl

-- The same row with 2 for the mark, which stands for a queue that halted and is no encoding: storing the mark leaves
-- what the row stands for, and changes the word.
abbrev odd : List (List ℕ)
odd = set rows marks_row (2 ∷ 1 ∷ 1 ∷ 5 ∷ 2 ∷ [])

pub odd_encodes_not : marks_encode (get_or odd marks_row []) ≡ false
unfolding testing
odd_encodes_not = refl

pub odd_framed : QueueFramed odd (set odd marks_row halted)
odd_framed = mark_framed odd halted refl refl refl refl

pub odd_mark_left : halted_from (word (get_or (set odd marks_row halted) marks_row []) mark_word)
    ≡ halted_from (word (get_or odd marks_row []) mark_word)
unfolding halted_from if_equal choose
odd_mark_left = refl

pub odd_word_before : word (get_or odd marks_row []) mark_word ≡ 2
odd_word_before = refl

pub odd_word_after : word (get_or (set odd marks_row halted) marks_row []) mark_word ≡ 1
odd_word_after = refl
