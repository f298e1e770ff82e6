-- A path into a tree: one frame for each node on the way, the last first, each with the side that the path left alone.
use Rattle.std.specs.Prelude.{ℕ, suc, max, List, [], ◌∷◌, ◌++◌}
use Rattle.avl.specs.Tree.{Tree, node, height, in_order, Near, Balanced}
use Rattle.avl.specs.Rotation.{balance}

-- The path went to the left of i, whose right side is r; or to the right of i, whose left side is l.
pub data Frame : Type 0 where
  left_of : ℕ → Tree → Frame
  right_of : Tree → ℕ → Frame

-- The tree with t at the end of the path.
abbrev pub plug : List Frame → Tree → Tree
plug [] t = t
plug (left_of i r ∷ z) t = plug z (node t i r)
plug (right_of l i ∷ z) t = plug z (node l i t)

-- The same, each node of the path balanced from the last to the first.
abbrev pub rebuild : List Frame → Tree → Tree
rebuild [] t = t
rebuild (left_of i r ∷ z) t = rebuild z (balance t i r)
rebuild (right_of l i ∷ z) t = rebuild z (balance l i t)

-- The threads to the left of the path.
unfoldable pub before : List Frame → List ℕ
before [] = []
before (left_of i r ∷ z) = before z
before (right_of l i ∷ z) = before z ++ in_order l ++ i ∷ []

-- The threads to the right of the path.
unfoldable pub after : List Frame → List ℕ
after [] = []
after (left_of i r ∷ z) = i ∷ in_order r ++ after z
after (right_of l i ∷ z) = after z

-- The frames of a balanced tree, with a subtree of height h at the end of the path.
abbrev pub BalancedAround : ℕ → List Frame → Type 0
BalancedAround h [] = Unit {0}
BalancedAround h (left_of i r ∷ z) =
    record { side : Balanced r; near : Near h (height r); above : BalancedAround (suc (max h (height r))) z }
BalancedAround h (right_of l i ∷ z) =
    record { side : Balanced l; near : Near (height l) h; above : BalancedAround (suc (max (height l) h)) z }
