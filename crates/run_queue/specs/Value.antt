-- The queue that a value stands for, part by part, and what the answers of its calls stand for.
use Rattle.std.specs.Prelude.{ℕ, Bool, List, map, ◌≡◌, Option}
use Rattle.refusal.specs.Answer.{by_number}
use Rattle.thread.specs.declared.ThreadQueue.{ThreadQueue}
use Rattle.policy_words.specs.PolicyWords.{word, epoch_from}
use Rattle.queue.specs.RunQueue.{CpuRunQueue}
use Rattle.queue.specs.Queue.{Step, step}
use Rattle.lent_queue.specs.LentQueue.{total_word, budgets_word, epoch_tag, epoch_word, mark_word, list_from}
use Rattle.lent_queue.specs.LentQueue.{halted_from}
use Rattle.selection.specs.Peek.{Peeked, peeked}
use Rattle.run_queue.specs.declared.CpuRunQueue as value
use Rattle.run_queue.specs.declared.QueueStep.{QueueStep}
use Rattle.run_queue.specs.declared.SelectionStep.{SelectionStep}

-- A value is the queue of its parts.
abbrev pub value_of : value.CpuRunQueue → CpuRunQueue
value_of q =
    record {
      realtime = q.realtime;
      realtime_len = q.realtime_len;
      fair = q.fair;
      indices = q.indices;
      budget_epoch = q.budget_epoch;
      budget_threads = q.budget_threads;
      halted = q.halted;
    }

-- The verdict and the queue of a step.
abbrev pub step_of : QueueStep → Step (Unit {0})
step_of s = step (by_number s.answer) (value_of s.queue)

-- The answer, the window and the queue of a selection.
abbrev pub selection_of : SelectionStep → Peeked CpuRunQueue
selection_of s = peeked (by_number s.answer) s.window (value_of s.queue)

-- The lists of rows.
unfoldable pub lists_of : List (List ℕ) → List ThreadQueue
lists_of rows = map list_from rows

-- The priority lists stored.
unfoldable pub with_lists : CpuRunQueue → List ThreadQueue → CpuRunQueue
with_lists q lists =
    record {
      realtime = lists;
      realtime_len = q.realtime_len;
      fair = q.fair;
      indices = q.indices;
      budget_epoch = q.budget_epoch;
      budget_threads = q.budget_threads;
      halted = q.halted;
    }

-- The words of a row that stand for these counts, this epoch and this mark.
pub record MarksAre (w : List ℕ) (total budgets : ℕ) (epoch : Option ℕ) (halted : Bool) : Type 0 where
  pub total_is : word w total_word ≡ total
  pub budgets_are : word w budgets_word ≡ budgets
  pub epoch_is : epoch_from (word w epoch_tag) (word w epoch_word) ≡ epoch
  pub mark_is : halted_from (word w mark_word) ≡ halted
