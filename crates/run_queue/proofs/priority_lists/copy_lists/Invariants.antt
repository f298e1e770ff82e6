-- The lists so far, laid over those that stood there.
use mathlib.Core.Path.{◌≡◌}
use lib.ListN.{length}
use Rattle.lent_queue.specs.LentQueue.{priorities}
use Rattle.run_queue.specs.Value.{lists_of}
use Rattle.run_queue.specs.ValueLaws.{overlaid}
use Rattle.run_queue.proofs.priority_lists.copy_lists.Given as goal

abbrev pub invariant-loop-k : goal.invariant-loop-k
invariant-loop-k l =
    (length l.rows ≡ priorities) × (lists_of l.rows ≡ overlaid l.k l.fn.lists (lists_of l.initial.rows))
