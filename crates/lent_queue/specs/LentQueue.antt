-- The queue that lent words stand for: 270 rows of five words, whatever the words. Rows 0 to 255 are the priority
-- lists, row 256 the fair list, rows 257 to 268 the roots, row 269 the FIFO total, the number of budget threads, the
-- epoch's two words and the mark.
use Rattle.std.specs.Prelude.{ℕ, Bool, true, false, List, [], map, get_or, set, take, drop, Option}
use Rattle.refusal.specs.Cases.{if_equal}
use Rattle.thread.specs.declared.ThreadQueue.{ThreadQueue}
use Rattle.codec.specs.Codec.{word, link_from, epoch_from}
use Rattle.queue.specs.declared.Root.{Root}
pub use Rattle.queue.specs.RunQueue.{priorities, tree_count}
use Rattle.queue.specs.RunQueue.{CpuRunQueue}

-- How many rows there are, and where the parts stand.
abbrev pub queue_rows : ℕ
queue_rows = 270

abbrev pub fair_row : ℕ
fair_row = 256

abbrev pub root_rows : ℕ
root_rows = 257

abbrev pub marks_row : ℕ
marks_row = 269

-- Where the words of a list stand in its row, and those of a root in its.
abbrev pub head_tag : ℕ
head_tag = 0

abbrev pub head_word : ℕ
head_word = 1

abbrev pub tail_tag : ℕ
tail_tag = 2

abbrev pub tail_word : ℕ
tail_word = 3

abbrev pub len_word : ℕ
len_word = 4

-- Where counts, epoch and mark stand in their row.
abbrev pub total_word : ℕ
total_word = 0

abbrev pub budgets_word : ℕ
budgets_word = 1

abbrev pub epoch_tag : ℕ
epoch_tag = 2

abbrev pub epoch_word : ℕ
epoch_word = 3

abbrev pub mark_word : ℕ
mark_word = 4

-- Head, tail and length.
unfoldable pub list_from : List ℕ → ThreadQueue
list_from w =
    record {
      head = link_from (word w head_tag) (word w head_word);
      tail = link_from (word w tail_tag) (word w tail_word);
      len = word w len_word;
    }

-- The first two words; the others are spare.
unfoldable pub root_from : List ℕ → Root
root_from w = record { root = link_from (word w head_tag) (word w head_word) }

-- 0 is not halted, any other word is.
unfoldable pub halted_from : ℕ → Bool
halted_from n = if_equal n 0 false true

-- SPECIFICATION 5.5.
unfoldable pub queue_of : List (List ℕ) → CpuRunQueue
queue_of rows =
    record {
      realtime = map list_from (take priorities rows);
      realtime_len = word (get_or rows marks_row []) total_word;
      fair = list_from (get_or rows fair_row []);
      indices = map root_from (take tree_count (drop root_rows rows));
      budget_epoch = epoch_from (word (get_or rows marks_row []) epoch_tag)
          (word (get_or rows marks_row []) epoch_word);
      budget_threads = word (get_or rows marks_row []) budgets_word;
      halted = halted_from (word (get_or rows marks_row []) mark_word);
    }

-- One priority's list stored.
unfoldable pub with_realtime : CpuRunQueue → ℕ → ThreadQueue → CpuRunQueue
with_realtime q p l =
    record {
      realtime = set q.realtime p l;
      realtime_len = q.realtime_len;
      fair = q.fair;
      indices = q.indices;
      budget_epoch = q.budget_epoch;
      budget_threads = q.budget_threads;
      halted = q.halted;
    }

-- The fair list stored.
unfoldable pub with_fair : CpuRunQueue → ThreadQueue → CpuRunQueue
with_fair q l =
    record {
      realtime = q.realtime;
      realtime_len = q.realtime_len;
      fair = l;
      indices = q.indices;
      budget_epoch = q.budget_epoch;
      budget_threads = q.budget_threads;
      halted = q.halted;
    }

-- One root stored.
unfoldable pub with_root : CpuRunQueue → ℕ → Option ℕ → CpuRunQueue
with_root q k root =
    record {
      realtime = q.realtime;
      realtime_len = q.realtime_len;
      fair = q.fair;
      indices = set q.indices k (record { root = root });
      budget_epoch = q.budget_epoch;
      budget_threads = q.budget_threads;
      halted = q.halted;
    }

-- The two counts stored.
unfoldable pub with_counts : CpuRunQueue → ℕ → ℕ → CpuRunQueue
with_counts q total budgets =
    record {
      realtime = q.realtime;
      realtime_len = total;
      fair = q.fair;
      indices = q.indices;
      budget_epoch = q.budget_epoch;
      budget_threads = budgets;
      halted = q.halted;
    }

-- Counts, epoch and mark stored as a row has them.
unfoldable pub with_marks : CpuRunQueue → List ℕ → CpuRunQueue
with_marks q w =
    record {
      realtime = q.realtime;
      realtime_len = word w total_word;
      fair = q.fair;
      indices = q.indices;
      budget_epoch = epoch_from (word w epoch_tag) (word w epoch_word);
      budget_threads = word w budgets_word;
      halted = halted_from (word w mark_word);
    }
