-- The bytes so far with those of what is left are the word's; the number of those left falls.
use Prim.Native.Nat.{◌≤◌, ◌-◌}
use mathlib.Core.Path.{◌≡◌}
use mathlib.Core.List.{◌++◌}
use lib.ListN.{length, take}
use Rattle.images.specs.Bytes.{word_bytes, low_bytes, bytes_of_word}
use Rattle.images.proofs.words.put_word.Given as goal

abbrev pub invariant-loop-i : goal.invariant-loop-i
invariant-loop-i l =
    (l.i ≤ word_bytes) × (length l.bytes ≡ word_bytes)
    × (take l.i l.bytes ++ low_bytes (word_bytes - l.i) l.rest ≡ bytes_of_word l.word)

abbrev pub decreases-loop-i : goal.decreases-loop-i
decreases-loop-i l = word_bytes - l.i
