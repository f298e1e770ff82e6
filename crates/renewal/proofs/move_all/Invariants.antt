-- The moves that are left give what all of them give; their number falls.
use mathlib.Core.Path.{◌≡◌}
use lib.ListN.{length}
use Rattle.rows.specs.Frame.{Framed}
use Rattle.rows.specs.Table.{table}
use Rattle.ready_index.specs.LoopLaws.{whole}
use Rattle.renewal.specs.Renewal.{move_all}
use Rattle.renewal.proofs.move_all.Given as goal

abbrev pub invariant-loop-left : goal.invariant-loop-left
invariant-loop-left l = (length l.t ≡ length l.initial.t) × (move_all l.left (table l.t) l.exhausted l.ready l.reading
    ≡ whole (move_all l.moves (table l.initial.t) l.initial.exhausted l.initial.ready l.reading))
    × Framed l.initial.t l.t

abbrev pub decreases-loop-left : goal.decreases-loop-left
decreases-loop-left l = l.left
