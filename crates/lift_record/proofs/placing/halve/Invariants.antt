-- What is left to halve gives what the whole gives; the numbers between fall.
use Rattle.std.proofs.Common.{◌≡◌, ◌-◌, ◌≤◌}
use Rattle.lift_record.specs.Halving.{precedes, halved}
use Rattle.lift_record.specs.Record.{runs}
use Rattle.lift_record.proofs.placing.halve.Given as goal

abbrev pub invariant-loop-lo : goal.invariant-loop-lo
invariant-loop-lo l =
    (l.hi ≤ runs l.list)
    × (halved (precedes l.list l.side l.time) l.lo l.hi
    ≡ halved (precedes l.list l.side l.time) l.initial.lo (runs l.list))

abbrev pub decreases-loop-lo : goal.decreases-loop-lo
decreases-loop-lo l = l.hi - l.lo
