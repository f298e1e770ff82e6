-- What is left of the text, on the page as it is, gives what all gives on the first page.
use Rattle.std.proofs.Common.{◌≡◌, drop}
use Rattle.text.specs.Writing.{page, written}
use Rattle.text.specs.Escaping.{escaped}
use Rattle.text.proofs.escaping.escape.Given as goal

abbrev pub invariant-loop-byte : goal.invariant-loop-byte
invariant-loop-byte l =
    written (page l.out l.end) (escaped (drop l.byte-index l.text))
    ≡ written (page l.initial.out l.at) (escaped l.text)
