-- The bytes so far are those of the first rows; the number of those left falls.
use Prim.Native.Nat.{◌≤◌, ◌-◌, ◌*◌}
use mathlib.Core.Path.{◌≡◌}
use lib.ListN.{length, take}
use Rattle.images.specs.Images.{queue_row_words}
use Rattle.images.specs.Bytes.{word_bytes, bytes_of_rows}
use Rattle.images.proofs.queue_rows.put_rows.Given as goal

abbrev pub invariant-loop-k : goal.invariant-loop-k
invariant-loop-k l =
    (l.k ≤ length l.q) × (length l.bytes ≡ word_bytes * queue_row_words * length l.q)
    × (take (word_bytes * queue_row_words * l.k) l.bytes ≡ bytes_of_rows (take l.k l.q))

abbrev pub decreases-loop-k : goal.decreases-loop-k
decreases-loop-k l = length l.q - l.k
