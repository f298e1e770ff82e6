-- What is left of the rows that the bytes stand for passes just where all of them do; their number falls.
use Prim.Native.Nat.{◌≤◌, ◌-◌}
use mathlib.Core.Path.{◌≡◌}
use lib.ListN.{drop}
use Rattle.images.specs.Images.{queue_row_words}
use Rattle.images.specs.Bytes.{rows_of_bytes}
use Rattle.images.specs.Encodes.{all_from, queue_row_encodes, queue_encodes}
use Rattle.images.proofs.queue_rows.bytes_encode.Given as goal

abbrev pub invariant-loop-k : goal.invariant-loop-k
invariant-loop-k l =
    (l.k ≤ l.count)
    × (all_from queue_row_encodes l.k (drop l.k (rows_of_bytes queue_row_words l.count l.bytes))
    ≡ queue_encodes (rows_of_bytes queue_row_words l.count l.bytes))

abbrev pub decreases-loop-k : goal.decreases-loop-k
decreases-loop-k l = l.count - l.k
