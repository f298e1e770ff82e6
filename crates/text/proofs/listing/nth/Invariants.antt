-- The name that many places on from here is the one that was asked for.
use Rattle.std.proofs.Common.{◌+◌, ◌-◌, ◌≤◌, ◌≡◌, [], length, drop, get_or}
use Rattle.text.specs.Reading.{before}
use Rattle.text.specs.Lists.{names_of, names_from}
use Rattle.text.proofs.listing.nth.Given as goal

abbrev pub invariant-loop : goal.invariant-loop
invariant-loop l =
    (l.start ≤ length l.list) × (l.start ≤ l.end) × (l.end ≤ length l.list)
    × (l.end ≡ l.start + before l.between (drop l.start l.list))
    × (length (names_from l.between l.start l.list) + l.counter ≡ length (names_of l.between l.list))
    × (get_or (names_from l.between l.start l.list) (l.n - l.counter) [] ≡ get_or (names_of l.between l.list) l.n [])
