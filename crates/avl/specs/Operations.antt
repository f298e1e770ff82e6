-- Insertion and removal on trees, each at the end of a path.
use Rattle.std.specs.Prelude.{◌≡◌, ℕ, List, [], ◌∷◌, ◌++◌}
use Rattle.avl.specs.Tree.{Tree, leaf, node}
use Rattle.avl.specs.Rotation.{balance}
use Rattle.avl.specs.Path.{Frame, left_of, rebuild}

-- A thread put at the end of a path that leads to a leaf.
abbrev pub insert_at : List Frame → ℕ → Tree
insert_at z i = rebuild z (node leaf i leaf)

-- The path from a node down to its leftmost thread, and that thread's right side.
pub record Successor : Type 0 where
  pub path : List Frame
  pub thread : ℕ
  pub right : Tree

-- Down the left sides from a node, z being the path to that node.
abbrev pub successor_from : List Frame → Tree → ℕ → Tree → Successor
successor_from z leaf i r = record { path = z; thread = i; right = r }
successor_from z (node a j b) i r = successor_from (left_of i r ∷ z) a j b

-- The successor in the place of the removed node: its own path is rebuilt without it first.
abbrev pub join_by : Tree → Successor → Tree
join_by l s = balance l s.thread (rebuild s.path s.right)

-- What takes the place of a node with these two sides.
abbrev pub join : Tree → Tree → Tree
join leaf r = r
join (node a x b) leaf = node a x b
join (node a x b) (node d j e) = join_by (node a x b) (successor_from [] d j e)

-- The node at the end of a path taken out, its sides l and r joined.
abbrev pub remove_at : List Frame → Tree → Tree → Tree
remove_at z l r = rebuild z (join l r)

-- The list y is the list x with i added at one place.
pub record Added (x : List ℕ) (i : ℕ) (y : List ℕ) : Type 0 where
  pub left : List ℕ
  pub right : List ℕ
  pub without : x ≡ left ++ right
  pub with : y ≡ left ++ i ∷ right
