-- The loop ends: what is left of the text falls. No more lines differ than were read.
use Rattle.std.proofs.Common.{length, ◌≤◌, ◌-◌, ◌+◌}
use Rattle.cases.proofs.machine.run.Given as goal

abbrev pub invariant-loop-i : goal.invariant-loop-i
invariant-loop-i l = (l.differs ≤ l.i) × ((l.differs ≤ length l.words) × (l.i ≤ length l.words + 1))

abbrev pub decreases-loop-i : goal.decreases-loop-i
decreases-loop-i l = length l.words - l.i
