-- The roles that are left give what all three give; their number falls.
use Prim.Native.Nat.{◌≤◌}
use mathlib.Core.Path.{◌≡◌}
use lib.ListN.{length}
use Rattle.rows.specs.Table.{table}
use Rattle.ready_index.specs.LoopLaws.{whole}
use Rattle.renewal.specs.Renewal.{renew_roles}
use Rattle.renewal.specs.RootRows.{roots_of}
use Rattle.rows.specs.Frame.{Framed}
use Rattle.lent_queue.specs.Frame.{RootsFramed}
use Rattle.renewal.proofs.renew_roles.Given as goal

abbrev pub invariant-loop-left : goal.invariant-loop-left
invariant-loop-left l = (l.left ≤ 3) × (length l.roots ≡ length l.initial.roots) × (length l.t ≡ length l.initial.t)
    × (renew_roles l.left l.moves (table l.t) (roots_of l.roots) l.reading
    ≡ whole (renew_roles 3 (length (table l.initial.t)) (table l.initial.t) (roots_of l.initial.roots) l.reading))
    × Framed l.initial.t l.t × RootsFramed l.initial.roots l.roots

abbrev pub decreases-loop-left : goal.decreases-loop-left
decreases-loop-left l = l.left
