-- The rows so far are the first that the bytes stand for; the number of those left falls.
use Prim.Native.Nat.{◌≤◌, ◌-◌}
use mathlib.Core.Path.{◌≡◌}
use lib.ListN.{length, take}
use Rattle.images.specs.Images.{queue_row_words}
use Rattle.images.specs.Bytes.{rows_of_bytes}
use Rattle.images.proofs.queue_rows.read_rows.Given as goal

abbrev pub invariant-loop-k : goal.invariant-loop-k
invariant-loop-k l =
    (l.k ≤ length l.initial.q) × (length l.q ≡ length l.initial.q)
    × (take l.k l.q ≡ rows_of_bytes queue_row_words l.k l.bytes)

abbrev pub decreases-loop-k : goal.decreases-loop-k
decreases-loop-k l = length l.initial.q - l.k
