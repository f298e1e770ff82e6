-- The bytes so far are those of the first words; the number of those left falls.
use Prim.Native.Nat.{◌≤◌, ◌-◌, ◌*◌}
use mathlib.Core.Path.{◌≡◌}
use lib.ListN.{length, take}
use Rattle.images.specs.Bytes.{word_bytes, bytes_of_words}
use Rattle.images.proofs.words.put_words.Given as goal

abbrev pub invariant-loop-i : goal.invariant-loop-i
invariant-loop-i l =
    (l.i ≤ length l.words) × (length l.bytes ≡ word_bytes * length l.words)
    × (take (word_bytes * l.i) l.bytes ≡ bytes_of_words (take l.i l.words))

abbrev pub decreases-loop-i : goal.decreases-loop-i
decreases-loop-i l = length l.words - l.i
