-- The rest of the way down, from the steps stored so far, gives what the whole gives; the room falls.
use mathlib.Core.Path.{◌≡◌}
use mathlib.Core.List.{[]}
use lib.ListN.{length}
use Rattle.rows.specs.Table.{table}
use Rattle.ready_index.specs.Path.{stack}
use Prim.Native.Nat.{◌≤◌, ◌-◌}
use Rattle.ready_index.specs.Index.{walk}
use Rattle.ready_index.specs.LoopLaws.{whole}
use Rattle.ready_index.proofs.walk.Given as goal

abbrev pub invariant-loop-len : goal.invariant-loop-len
invariant-loop-len l = (length l.path ≡ length l.initial.path) × (l.len ≤ length l.path)
    × (walk (length l.path - l.len) (table l.t) l.key l.current (stack l.path 0 l.len)
    ≡ whole (walk (length l.initial.path) (table l.t) l.key l.initial.current []))

abbrev pub decreases-loop-len : goal.decreases-loop-len
decreases-loop-len l = length l.path - l.len
