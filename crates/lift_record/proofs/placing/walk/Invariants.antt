-- All runs passed precede.
use Rattle.std.proofs.Common.{◌≡◌, ℕ, ◌<◌, ◌≤◌, true}
use Rattle.lift_record.specs.Halving.{precedes}
use Rattle.lift_record.specs.Record.{runs}
use Rattle.lift_record.proofs.placing.walk.Given as goal

abbrev pub invariant-loop-i : goal.invariant-loop-i
invariant-loop-i l =
    (l.fn.from ≤ l.i) × (l.i ≤ runs l.list)
    × ((k : ℕ) → l.fn.from ≤ k → k < l.i → precedes l.list l.side l.time k ≡ true)
