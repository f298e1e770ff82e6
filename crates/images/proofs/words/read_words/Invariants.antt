-- The words so far are the first that the bytes stand for; the number of those left falls.
use Prim.Native.Nat.{◌≤◌, ◌-◌}
use mathlib.Core.Path.{◌≡◌}
use lib.ListN.{length, take}
use Rattle.images.specs.Bytes.{words_of_bytes}
use Rattle.images.proofs.words.read_words.Given as goal

abbrev pub invariant-loop-i : goal.invariant-loop-i
invariant-loop-i l =
    (l.i ≤ length l.initial.words) × (length l.words ≡ length l.initial.words)
    × (take l.i l.words ≡ words_of_bytes l.i l.bytes)

abbrev pub decreases-loop-i : goal.decreases-loop-i
decreases-loop-i l = length l.initial.words - l.i
