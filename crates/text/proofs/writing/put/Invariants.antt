-- What is left to write, on the page as it is, gives what all gives on the first page.
use Rattle.std.proofs.Common.{◌≡◌, drop}
use Rattle.text.specs.Writing.{page, written}
use Rattle.text.proofs.writing.put.Given as goal

abbrev pub invariant-loop-byte : goal.invariant-loop-byte
invariant-loop-byte l =
    written (page l.out l.end) (drop l.byte-index l.bytes) ≡ written (page l.initial.out l.at) l.bytes
