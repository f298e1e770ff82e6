-- Rebuilding along a path of a balanced tree gives a balanced tree.
use Rattle.std.proofs.Common.{arith}
use Rattle.std.specs.Prelude.{List, [], ◌∷◌}
use Rattle.avl.specs.Tree.{Tree, node, height, Near, Balanced}
use Rattle.avl.specs.Rotation.{balance}
use Rattle.avl.specs.Path.{Frame, left_of, right_of, plug, rebuild, BalancedAround}
use Rattle.avl.proofs.Balance.{balance_balanced}

-- The tree with t in the place of x is balanced, and its height differs by at most one from what it was.
pub record Replaced (z : List Frame) (x t : Tree) : Type 0 where
  pub balanced : Balanced (rebuild z t)
  pub near : Near (height (rebuild z t)) (height (plug z x))

-- A subtree x of a balanced tree is replaced by a balanced t whose height differs by at most one, and the path is
-- rebuilt.
pub rebuild_balanced : (z : List Frame) (x t : Tree) → BalancedAround (height x) z → Balanced t
    → Near (height t) (height x) → Replaced z x t
rebuild_balanced [] x t a v n = record { balanced = v; near = n }
rebuild_balanced (left_of i r ∷ z) x t a v n =
    let m = a.near in
    let b = balance_balanced t i r v a.side (omega arith) (omega arith) in
    let g = rebuild_balanced z (node x i r) (balance t i r) a.above b.balanced (omega arith, omega arith) in
    record { balanced = g.balanced; near = g.near }
rebuild_balanced (right_of l i ∷ z) x t a v n =
    let m = a.near in
    let b = balance_balanced l i t a.side v (omega arith) (omega arith) in
    let g = rebuild_balanced z (node l i x) (balance l i t) a.above b.balanced (omega arith, omega arith) in
    record { balanced = g.balanced; near = g.near }

-- The frames and the subtree of a balanced tree.
pub record BalancedAt (z : List Frame) (t : Tree) : Type 0 where
  pub frames : BalancedAround (height t) z
  pub subtree : Balanced t

-- A balanced tree is balanced along every path.
pub balanced_at : (z : List Frame) (t : Tree) → Balanced (plug z t) → BalancedAt z t
balanced_at [] t a = record { frames = tt; subtree = a }
balanced_at (left_of i r ∷ z) t a =
    let b = balanced_at z (node t i r) a in
    record {
      frames = record { side = b.subtree.right; near = b.subtree.near; above = b.frames };
      subtree = b.subtree.left;
    }
balanced_at (right_of l i ∷ z) t a =
    let b = balanced_at z (node l i t) a in
    record {
      frames = record { side = b.subtree.left; near = b.subtree.near; above = b.frames };
      subtree = b.subtree.right;
    }
