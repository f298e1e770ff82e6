-- What calls leave of the words of a queue's rows (crate codec, Frame.antt, has a thread's row): the spare words of a
-- root's row are as they were, and each part of the others is as it was or is the encoding of what it stands for. A
-- length and a count are words by themselves and any number: they always encode.
use Rattle.std.specs.Prelude.{ℕ, ◌+◌, ◌<◌, ◌≡◌, Bool, List, [], ltb, length, get_or}
use Rattle.codec.specs.Codec.{word}
use Rattle.codec.specs.Frame.{words_from, a_link, Part}
use Rattle.lent_queue.specs.LentQueue.{tree_count, root_rows, marks_row, head_tag, tail_tag, epoch_tag, mark_word}

-- The words of a list's head and tail, of a root, and those of a root's row that are spare.
abbrev pub head_words : List ℕ → List ℕ
head_words w = words_from w head_tag 2

abbrev pub tail_words : List ℕ → List ℕ
tail_words w = words_from w tail_tag 2

abbrev pub spare_words : List ℕ → List ℕ
spare_words w = words_from w tail_tag 3

-- The epoch's words and the mark, in the row of counts.
abbrev pub epoch_words : List ℕ → List ℕ
epoch_words w = words_from w epoch_tag 2

abbrev pub mark_words : List ℕ → List ℕ
mark_words w = words_from w mark_word 1

abbrev pub a_mark : List ℕ → Bool
a_mark p = ltb (word p 0) 2

-- v is what became of w: a list's row, a root's, and that of counts, epoch and mark.
pub record ListFramed (w v : List ℕ) : Type 0 where
  pub head : Part a_link (head_words w) (head_words v)
  pub tail : Part a_link (tail_words w) (tail_words v)

pub record RootFramed (w v : List ℕ) : Type 0 where
  pub head : Part a_link (head_words w) (head_words v)
  pub spare : spare_words v ≡ spare_words w

pub record MarksFramed (w v : List ℕ) : Type 0 where
  pub epoch : Part a_link (epoch_words w) (epoch_words v)
  pub mark : Part a_mark (mark_words w) (mark_words v)

-- c is what became of the queue's rows b (SPECIFICATION 11.3).
pub record QueueFramed (b c : List (List ℕ)) : Type 0 where
  pub list : (p : ℕ) → p < root_rows → ListFramed (get_or b p []) (get_or c p [])
  pub root : (k : ℕ) → k < tree_count → RootFramed (get_or b (root_rows + k) []) (get_or c (root_rows + k) [])
  pub marks : MarksFramed (get_or b marks_row []) (get_or c marks_row [])

-- The same of the roots' rows by themselves.
pub record RootsFramed (b c : List (List ℕ)) : Type 0 where
  pub count : length c ≡ length b
  pub root : (k : ℕ) → RootFramed (get_or b k []) (get_or c k [])
