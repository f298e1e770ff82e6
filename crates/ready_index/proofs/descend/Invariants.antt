-- The rest of the way down gives what the whole gives; the room falls.
use mathlib.Core.Path.{◌≡◌}
use Rattle.rows.specs.Table.{table}
use Rattle.ready_index.specs.Index.{descend}
use Rattle.ready_index.specs.LoopLaws.{whole}
use Rattle.ready_index.proofs.descend.Given as goal

abbrev pub invariant-loop-room : goal.invariant-loop-room
invariant-loop-room l = descend l.room (table l.t) l.id ≡ whole (descend 40 (table l.t) l.start)

abbrev pub decreases-loop-room : goal.decreases-loop-room
decreases-loop-room l = l.room
