-- The digits that are left, on the page as it is, give what all give on the first page.
use Rattle.std.proofs.Common.{◌≡◌, drop}
use Rattle.text.specs.Writing.{page, written, grouped}
use Rattle.text.proofs.writing.put_grouped.Given as goal

abbrev pub invariant-loop-i : goal.invariant-loop-i
invariant-loop-i l =
    written (page l.out l.end) (grouped (drop l.i l.digits)) ≡ written (page l.initial.out l.at) (grouped l.digits)
