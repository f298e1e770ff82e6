-- What is left of the rows passes just where all of them do; their number falls.
use Prim.Native.Nat.{◌≤◌, ◌-◌}
use mathlib.Core.Path.{◌≡◌}
use lib.ListN.{length, drop}
use Rattle.images.specs.Encodes.{all_from, record_at, table_encodes}
use Rattle.images.proofs.table_rows.rows_encode.Given as goal

abbrev pub invariant-loop-k : goal.invariant-loop-k
invariant-loop-k l =
    (l.k ≤ length l.t) × (all_from record_at l.k (drop l.k l.t) ≡ table_encodes l.t)

abbrev pub decreases-loop-k : goal.decreases-loop-k
decreases-loop-k l = length l.t - l.k
