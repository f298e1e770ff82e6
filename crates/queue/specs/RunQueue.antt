-- The queue that the definitions speak of, whether it lies in lent words (crate lent_queue) or is held by value (crate
-- run_queue).
use Rattle.std.specs.Prelude.{ℕ, Bool, List, Option}
use Rattle.thread.specs.declared.ThreadQueue.{ThreadQueue}
use Rattle.queue.specs.declared.Root.{Root}

-- How many priority lists there are, and how many trees.
abbrev pub priorities : ℕ
priorities = 256

abbrev pub tree_count : ℕ
tree_count = 12

abbrev pub last_tree : ℕ
last_tree = 11

-- 256 priority lists and their total, the fair list, twelve trees, the epoch of the last selection, the number of
-- budget threads, and the mark of a queue that halted.
pub record CpuRunQueue : Type 0 where
  pub realtime : List ThreadQueue
  pub realtime_len : ℕ
  pub fair : ThreadQueue
  pub indices : List Root
  pub budget_epoch : Option ℕ
  pub budget_threads : ℕ
  pub halted : Bool
