-- Binary trees of thread numbers.
use Rattle.std.specs.Prelude.{ℕ, suc, ◌+◌, ◌≤◌, max, List, [], ◌∷◌, ◌++◌}

-- A leaf, or a node with a left side, a thread and a right side.
pub data Tree : Type 0 where
  leaf : Tree
  node : Tree → ℕ → Tree → Tree

-- The number of nodes on the longest path down.
abbrev pub height : Tree → ℕ
height leaf = 0
height (node l i r) = suc (max (height l) (height r))

-- The threads from left to right.
unfoldable pub in_order : Tree → List ℕ
in_order leaf = []
in_order (node l i r) = in_order l ++ i ∷ in_order r

-- The number of nodes.
abbrev pub size : Tree → ℕ
size leaf = 0
size (node l i r) = suc (size l + size r)

-- Two heights differ by at most one.
abbrev pub Near : ℕ → ℕ → Type 0
Near a b = (a ≤ b + 1) × (b ≤ a + 1)

-- At every node the heights of the two sides differ by at most one.
abbrev pub Balanced : Tree → Type 0
Balanced leaf = Unit {0}
Balanced (node l i r) = record { left : Balanced l; right : Balanced r; near : Near (height l) (height r) }

-- The leftmost thread of a node's tree.
abbrev pub leftmost : Tree → ℕ → Tree → ℕ
leftmost leaf i r = i
leftmost (node a j b) i r = leftmost a j b
