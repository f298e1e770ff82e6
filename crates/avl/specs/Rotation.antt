-- Rotations, and the balancing of a node whose sides are balanced.
use Rattle.std.specs.Prelude.{ℕ, ◌-◌, ltb}
use Rattle.refusal.specs.Cases.{choose, if_less}
use Rattle.avl.specs.declared.Lean.{Lean}
use Rattle.avl.specs.declared.Lean.TheVariants.{Left, Right, Even}
use Rattle.avl.specs.Tree.{Tree, leaf, node, height}

-- Which of two heights is larger by two or more: the balance factor's test.
unfoldable pub lean_of : ℕ → ℕ → Lean
lean_of left right = if_less right left (if_less 1 (left - right) Left Even) (if_less 1 (right - left) Right Even)

-- By which side is too high: left, right, neither.
unfoldable pub on_lean : {A : Type 0} → Lean → A → A → A → A
on_lean Left left right even = left
on_lean Right left right even = right
on_lean Even left right even = even

-- The right child takes the node's place.
unfoldable pub rotate_left : Tree → ℕ → Tree → Tree
rotate_left l i leaf = node l i leaf
rotate_left l i (node a j b) = node (node l i a) j b

-- The left child takes the node's place.
unfoldable pub rotate_right : Tree → ℕ → Tree → Tree
rotate_right leaf i r = node leaf i r
rotate_right (node a j b) i r = node a j (node b i r)

-- The first half of a double rotation: a left child whose inner side is the higher is rotated to the left.
unfoldable pub outward_left : Tree → Tree
unfolding choose rotate_left
outward_left leaf = leaf
outward_left (node a j b) = choose (ltb (height a) (height b)) (rotate_left a j b) (node a j b)

-- The same for a right child.
unfoldable pub outward_right : Tree → Tree
unfolding choose rotate_right
outward_right leaf = leaf
outward_right (node a j b) = choose (ltb (height b) (height a)) (rotate_right a j b) (node a j b)

-- The node rotated by the side that is too high.
unfoldable pub balance_by : Lean → Tree → ℕ → Tree → Tree
unfolding rotate_left rotate_right outward_left outward_right
balance_by Left l i r = rotate_right (outward_left l) i r
balance_by Right l i r = rotate_left l i (outward_right r)
balance_by Even l i r = node l i r

-- The node balanced by the heights of its sides.
unfoldable pub balance : Tree → ℕ → Tree → Tree
unfolding balance_by
balance l i r = balance_by (lean_of (height l) (height r)) l i r
