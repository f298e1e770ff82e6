-- The bytes so far are those of the first rows; the number of those left falls.
use Prim.Native.Nat.{◌≤◌, ◌-◌, ◌*◌}
use mathlib.Core.Path.{◌≡◌}
use lib.ListN.{length, take}
use Rattle.codec.specs.Codec.{row_words}
use Rattle.images.specs.Bytes.{word_bytes, bytes_of_rows}
use Rattle.images.proofs.table_rows.put_rows.Given as goal

abbrev pub invariant-loop-k : goal.invariant-loop-k
invariant-loop-k l =
    (l.k ≤ length l.t) × (length l.bytes ≡ word_bytes * row_words * length l.t)
    × (take (word_bytes * row_words * l.k) l.bytes ≡ bytes_of_rows (take l.k l.t))

abbrev pub decreases-loop-k : goal.decreases-loop-k
decreases-loop-k l = length l.t - l.k
