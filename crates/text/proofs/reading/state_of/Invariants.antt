-- The bytes that are left, behind those so far, come to what all of them do.
use Rattle.std.proofs.Common.{◌≡◌, take}
use Rattle.text.specs.declared.reading.Numeral.TheVariants as numeral
use Rattle.text.specs.Reading.{state_of}
use Rattle.text.proofs.reading.state_of.Given as goal

abbrev pub invariant-loop-byte : goal.invariant-loop-byte
invariant-loop-byte l = l.state ≡ state_of numeral.Open (take l.byte-index l.word)
