-- Whether words are the encoding of what they stand for, word by word: a tag that is a variant's number, a number
-- within its type, 0 where nothing uses a word.
use Rattle.std.specs.Prelude.{ℕ, suc, Bool, true, false, List, [], ◌∷◌, ltb, eqb}
use Rattle.refusal.specs.Cases.{if_less, if_equal}
use Rattle.policy_words.specs.PolicyWords.{policy_tag, fifo_priority, band_word, role_tag, weight_word, backend_tag}
use Rattle.policy_words.specs.PolicyWords.{budget_tag, budget_word, budget_period, budget_burst}
use Rattle.policy_words.specs.PolicyWords.{runtime_tag, runtime_first, runtime_second, runtime_third, runtime_fourth}
pub use Rattle.policy_words.specs.Encodes.{both}
unfoldable pub use Rattle.codec.specs.Frame.{zeros, option_encodes, runtime_encodes, membership_encodes}
use Rattle.codec.specs.Codec.{word, left_tag, left_word, right_tag, right_word, height_word}
use Rattle.codec.specs.Codec.{previous_tag, previous_word, next_tag, next_word}
use Rattle.codec.specs.Codec.{membership_tag, membership_first, membership_second, cpu_word}
use Rattle.window_words.specs.WindowWords as window
use Rattle.lent_queue.specs.LentQueue as queue

-- Where the two spare words of a thread's row stand.
abbrev pub first_spare : ℕ
first_spare = 30

abbrev pub second_spare : ℕ
second_spare = 31

unfoldable pub policy_encodes : ℕ → ℕ → Bool
policy_encodes tag priority = if_equal tag 0 (ltb priority 256) (if_less tag 4 (eqb priority 0) false)

unfoldable pub budget_encodes : ℕ → ℕ → ℕ → ℕ → Bool
budget_encodes tag ns period burst = if_equal tag 0 (zeros ns period burst) (eqb tag 1)

-- Words 0 to 10 of a thread's row, but for the quantum, which is any.
unfoldable pub parameters_encode : List ℕ → Bool
parameters_encode w =
    both (policy_encodes (word w policy_tag) (word w fifo_priority))
    (if_less (word w band_word) 256
    (if_less (word w role_tag) 3
    (if_less (word w weight_word) 65536
    (if_less (word w backend_tag) 2
    (budget_encodes (word w budget_tag) (word w budget_word) (word w budget_period) (word w budget_burst))
    false) false) false) false)

-- Words 17 to 21.
unfoldable pub links_encode : List ℕ → Bool
links_encode w =
    both (option_encodes (word w left_tag) (word w left_word))
    (both (option_encodes (word w right_tag) (word w right_word)) (ltb (word w height_word) 256))

-- Words 22 to 28.
unfoldable pub queue_links_encode : List ℕ → Bool
queue_links_encode w =
    both (option_encodes (word w previous_tag) (word w previous_word))
    (both (option_encodes (word w next_tag) (word w next_word))
    (membership_encodes (word w membership_tag) (word w membership_first) (word w membership_second)))

-- A thread's row; its turn is any (SPECIFICATION 5.6).
unfoldable pub record_encodes : List ℕ → Bool
record_encodes w =
    both (parameters_encode w)
    (both (runtime_encodes (word w runtime_tag) (word w runtime_first) (word w runtime_second) (word w runtime_third)
    (word w runtime_fourth))
    (both (links_encode w)
    (both (queue_links_encode w)
    (if_less (word w cpu_word) 256 (zeros (word w first_spare) (word w second_spare) 0) false))))

-- A window's words: ranks are bytes, a flag is 0 or 1; times and what remains are any.
unfoldable pub window_encodes : List ℕ → Bool
window_encodes w =
    if_less (word w window.priority_rank_word) 256
    (if_less (word w window.budget_rank_word) 256
    (if_less (word w window.fair_rank_word) 256
    (if_less (word w window.borrow_rank_word) 256
    (if_less (word w window.prefer_fair_word) 2
    (option_encodes (word w window.epoch_tag) (word w window.epoch_word))
    false) false) false) false) false

-- A row of a queue by its place: a list, a root, or counts, epoch and mark.
unfoldable pub list_encodes : List ℕ → Bool
list_encodes w =
    both (option_encodes (word w queue.head_tag) (word w queue.head_word))
    (option_encodes (word w queue.tail_tag) (word w queue.tail_word))

unfoldable pub root_encodes : List ℕ → Bool
root_encodes w =
    both (option_encodes (word w queue.head_tag) (word w queue.head_word))
    (zeros (word w queue.tail_tag) (word w queue.tail_word) (word w queue.len_word))

unfoldable pub marks_encode : List ℕ → Bool
marks_encode w =
    both (option_encodes (word w queue.epoch_tag) (word w queue.epoch_word)) (ltb (word w queue.mark_word) 2)

unfoldable pub queue_row_encodes : ℕ → List ℕ → Bool
queue_row_encodes k w =
    if_less k queue.root_rows (list_encodes w) (if_less k queue.marks_row (root_encodes w) (marks_encode w))

-- Whether each row from the k-th on passes the test of its place.
unfoldable pub all_from : (ℕ → List ℕ → Bool) → ℕ → List (List ℕ) → Bool
all_from test k [] = true
all_from test k (row ∷ rest) = both (test k row) (all_from test (suc k) rest)

-- A queue's rows, and a table's.
unfoldable pub queue_encodes : List (List ℕ) → Bool
queue_encodes rows = all_from queue_row_encodes 0 rows

abbrev pub record_at : ℕ → List ℕ → Bool
record_at k w = record_encodes w

unfoldable pub table_encodes : List (List ℕ) → Bool
table_encodes rows = all_from record_at 0 rows
