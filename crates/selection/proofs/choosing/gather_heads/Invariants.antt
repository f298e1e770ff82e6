-- The trees that are left give what all twelve give; their number falls.
use Prim.Native.Nat.{◌+◌, ◌≤◌}
use mathlib.Core.Path.{◌≡◌}
use mathlib.Core.List.{[]}
use lib.ListN.{length, take}
use Rattle.rows.specs.Table.{table}
use Rattle.ready_index.specs.LoopLaws.{whole}
use Rattle.renewal.specs.RootRows.{roots_of}
use Rattle.selection.specs.HeadNumbers.{gather_numbers}
use Rattle.rows.specs.Frame.{Framed}
use Rattle.selection.proofs.choosing.gather_heads.Given as goal

abbrev pub invariant-loop-left : goal.invariant-loop-left
invariant-loop-left l = (l.count + l.left ≤ 12) × (length l.t ≡ length l.initial.t) × (length l.heads ≡ 12)
    × (gather_numbers l.left (table l.t) (roots_of l.roots) l.cpu l.reading (take l.count l.heads) l.found
    ≡ whole (gather_numbers 12 (table l.initial.t) (roots_of l.roots) l.cpu l.reading [] l.initial.found))
    × Framed l.initial.t l.t

abbrev pub decreases-loop-left : goal.decreases-loop-left
decreases-loop-left l = l.left
