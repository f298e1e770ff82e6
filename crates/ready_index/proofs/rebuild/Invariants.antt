-- Rebuilding along the steps that are left gives what the whole gives; their number falls. Each step keeps to
-- the rows' frame.
use mathlib.Core.Path.{◌≡◌}
use Rattle.rows.specs.Frame.{Framed}
use Rattle.rows.specs.Table.{table}
use Prim.Native.Nat.{◌≤◌, ◌+◌}
use lib.ListN.{length}
use Rattle.ready_index.specs.Index.{rebuild}
use Rattle.ready_index.specs.Path.{stack}
use Rattle.ready_index.specs.LoopLaws.{whole}
use Rattle.ready_index.proofs.rebuild.Given as goal

abbrev pub invariant-loop-len : goal.invariant-loop-len
invariant-loop-len l = (l.start + l.len ≤ length l.path) × (length l.t ≡ length l.initial.t)
    × (rebuild (stack l.path l.start l.len) (table l.t) l.sub
    ≡ whole (rebuild (stack l.path l.start l.steps) (table l.initial.t) l.initial.sub))
    × Framed l.initial.t l.t

abbrev pub decreases-loop-len : goal.decreases-loop-len
decreases-loop-len l = l.len
