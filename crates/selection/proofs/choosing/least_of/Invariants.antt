-- The heads that are left give what all give; they become fewer.
use Prim.Native.Nat.{◌-◌, ◌≤◌}
use mathlib.Core.Path.{◌≡◌}
use lib.ListN.{take, drop}
use Rattle.rows.specs.Table.{table}
use Rattle.ready_index.specs.LoopLaws.{whole}
use Rattle.selection.specs.HeadNumbers.{least_number}
use Rattle.selection.proofs.choosing.least_of.Given as goal

abbrev pub invariant-loop-k : goal.invariant-loop-k
invariant-loop-k l = (l.k ≤ l.count) × (least_number (table l.t)
    (drop l.k (take l.count l.heads)) l.reading l.demand l.window l.best
    ≡ whole (least_number (table l.t) (take l.count l.heads) l.reading l.demand l.window l.initial.best))

abbrev pub decreases-loop-k : goal.decreases-loop-k
decreases-loop-k l = l.count - l.k
