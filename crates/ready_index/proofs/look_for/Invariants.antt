-- The rest of the way down gives what the whole gives; the room falls.
use mathlib.Core.Path.{◌≡◌}
use Rattle.rows.specs.Table.{table}
use Rattle.ready_index.specs.Index.{look_for}
use Rattle.ready_index.specs.LoopLaws.{whole}
use Rattle.ready_index.proofs.look_for.Given as goal

abbrev pub invariant-loop-room : goal.invariant-loop-room
invariant-loop-room l = look_for l.room (table l.t) l.key l.id l.current
    ≡ whole (look_for 40 (table l.t) l.key l.id l.initial.current)

abbrev pub decreases-loop-room : goal.decreases-loop-room
decreases-loop-room l = l.room
