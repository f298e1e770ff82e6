-- What is left of the rows passes just where all of them do; their number falls.
use Prim.Native.Nat.{◌≤◌, ◌-◌}
use mathlib.Core.Path.{◌≡◌}
use lib.ListN.{length, drop}
use Rattle.images.specs.Encodes.{all_from, queue_row_encodes, queue_encodes}
use Rattle.images.proofs.queue_rows.rows_encode.Given as goal

abbrev pub invariant-loop-k : goal.invariant-loop-k
invariant-loop-k l =
    (l.k ≤ length l.q) × (all_from queue_row_encodes l.k (drop l.k l.q) ≡ queue_encodes l.q)

abbrev pub decreases-loop-k : goal.decreases-loop-k
decreases-loop-k l = length l.q - l.k
