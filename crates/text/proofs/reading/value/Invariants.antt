-- The bytes that are left, behind the number so far, denote what all of them do.
use Rattle.std.proofs.Common.{◌≤◌, ◌≡◌, drop}
use Rattle.text.specs.Reading.{denoted, most}
use Rattle.text.proofs.reading.value.Given as goal

abbrev pub invariant-loop-byte : goal.invariant-loop-byte
invariant-loop-byte l = (l.value ≤ most) × (denoted l.value (drop l.byte-index l.word) ≡ denoted 0 l.word)
