-- The rest of the way down, from the steps stored so far, gives what the whole gives; the room falls, and the first
-- part of the path stays.
use mathlib.Core.Path.{◌≡◌}
use mathlib.Core.List.{[]}
use lib.ListN.{length}
use Rattle.rows.specs.Table.{table}
use Rattle.ready_index.specs.Path.{stack}
use Prim.Native.Nat.{◌≤◌, ◌-◌, ◌+◌}
use Rattle.ready_index.specs.Index.{successor}
use Rattle.ready_index.specs.LoopLaws.{whole}
use Rattle.ready_index.proofs.successor.Given as goal

abbrev pub invariant-loop-links : goal.invariant-loop-links
invariant-loop-links l = (length l.path ≡ length l.initial.path) × (l.start + l.len ≤ length l.path)
    × (stack l.path 0 l.start ≡ stack l.initial.path 0 l.start)
    × (successor (length l.path - (l.start + l.len)) (table l.t) l.id (stack l.path l.start l.len)
    ≡ whole (successor (length l.initial.path - l.start) (table l.t) l.initial.id []))

abbrev pub decreases-loop-links : goal.decreases-loop-links
decreases-loop-links l = length l.path - (l.start + l.len)
