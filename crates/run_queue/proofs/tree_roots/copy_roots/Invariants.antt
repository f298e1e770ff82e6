-- The roots so far, laid over those that stood there.
use mathlib.Core.Path.{◌≡◌}
use lib.ListN.{length}
use Rattle.lent_queue.specs.LentQueue.{tree_count}
use Rattle.renewal.specs.RootRows.{roots_of}
use Rattle.run_queue.specs.ValueLaws.{overlaid}
use Rattle.run_queue.proofs.tree_roots.copy_roots.Given as goal

abbrev pub invariant-loop-k : goal.invariant-loop-k
invariant-loop-k l =
    (length l.rows ≡ tree_count) × (roots_of l.rows ≡ overlaid l.k l.fn.indices (roots_of l.initial.rows))
