-- The spaces that are left, on the page as it is, give what all give on the first page.
use Rattle.std.proofs.Common.{◌-◌, ◌≡◌}
use Rattle.text.specs.Writing.{page, written, spaces}
use Rattle.text.proofs.writing.put_spaces.Given as goal

abbrev pub invariant-loop : goal.invariant-loop
invariant-loop l =
    written (page l.out l.end) (spaces (l.count - l.counter)) ≡ written (page l.initial.out l.at) (spaces l.count)
