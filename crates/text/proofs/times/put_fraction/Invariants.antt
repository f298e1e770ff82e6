-- The digits that are left, on the page as it is, give what all give on the first page.
use Rattle.std.proofs.Common.{◌-◌, ◌≡◌}
use Rattle.text.specs.Writing.{page, written}
use Rattle.text.specs.Times.{fraction_from}
use Rattle.text.proofs.times.put_fraction.Given as goal

abbrev pub invariant-loop : goal.invariant-loop
invariant-loop l =
    written (page l.out l.end) (fraction_from (6 - l.counter) l.rest)
    ≡ written (page l.initial.out l.at) (fraction_from 6 l.fraction)
