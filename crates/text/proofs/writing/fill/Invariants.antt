-- What is left of the template, on the page as it is, gives what all gives on the first page.
use Rattle.std.proofs.Common.{None, ◌≡◌, drop}
use Rattle.text.specs.Writing.{page, written, filled}
use Rattle.text.proofs.writing.fill.Given as goal

abbrev pub invariant-loop-byte : goal.invariant-loop-byte
invariant-loop-byte l =
    written (page l.out l.end) (filled l.values l.word l.escape (drop l.byte-index l.template))
    ≡ written (page l.initial.out l.at) (filled l.values l.word None l.template)
