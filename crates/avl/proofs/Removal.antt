-- Removal keeps balance and takes out one thread.
use Rattle.std.specs.Prelude.{◌≡◌, refl, ℕ, List, [], ◌∷◌, ◌++◌}
use Rattle.std.proofs.Common.{sym, ap, ◌∙◌, subst, arith, append_assoc, append-nil}
use Rattle.avl.specs.Tree.{Tree, leaf, node, height, in_order, Near, Balanced, leftmost}
use Rattle.avl.specs.Path.{Frame, left_of, plug, rebuild, before, after}
use Rattle.avl.specs.Operations.{Successor, successor_from, join_by, join, remove_at, Added}
use Rattle.avl.proofs.InOrder.{balance_in_order, plug_in_order, rebuild_in_order}
use Rattle.avl.proofs.Balance.{balance_balanced}
use Rattle.avl.proofs.Rebuild.{Replaced, rebuild_balanced, balanced_at}

-- The successor's path leads to it and goes to the left only.
pub record SuccessorIn (z : List Frame) (x : Tree) (s : Successor) : Type 0 where
  pub whole : plug s.path (node leaf s.thread s.right) ≡ plug z x
  pub first : before s.path ≡ before z

-- So it is for every node.
pub successor_in : (z : List Frame) (l : Tree) (i : ℕ) (r : Tree) → SuccessorIn z (node l i r) (successor_from z l i r)
unfolding before
successor_in z leaf i r = record { whole = refl; first = refl }
successor_in z (node a j b) i r =
    let s = successor_in (left_of i r ∷ z) a j b in record { whole = s.whole; first = s.first }

-- The successor is the leftmost thread.
pub successor_leftmost : (z : List Frame) (l : Tree) (i : ℕ) (r : Tree)
    → (successor_from z l i r).thread ≡ leftmost l i r
successor_leftmost z leaf i r = refl
successor_leftmost z (node a j b) i r = successor_leftmost (left_of i r ∷ z) a j b

-- Two sides joined: balanced, in order, and not higher or lower by more than one than with the removed node.
pub record Joined (l : Tree) (i : ℕ) (r y : Tree) : Type 0 where
  pub balanced : Balanced y
  pub near : Near (height y) (height (node l i r))
  pub in_order_lem : in_order y ≡ in_order l ++ in_order r

-- The right side without its first thread.
pub right_side : (s : Successor) (r : Tree) → SuccessorIn [] r s → Balanced r
    → Replaced s.path (node leaf s.thread s.right) s.right
right_side s r e a =
    let v = balanced_at s.path (node leaf s.thread s.right) (subst Balanced (sym e.whole) a) in
    let n = v.subtree.near in
    rebuild_balanced s.path (node leaf s.thread s.right) s.right v.frames v.subtree.right
    (omega arith, omega arith)

join_in_order : (l : Tree) (s : Successor) (r : Tree) → SuccessorIn [] r s
    → in_order (join_by l s) ≡ in_order l ++ in_order r
unfolding in_order before
join_in_order l s r e =
    let now : in_order (rebuild s.path s.right) ≡ in_order s.right ++ after s.path = rw e.first at
    (rebuild_in_order s.path s.right) in
    let was : in_order r ≡ s.thread ∷ (in_order s.right ++ after s.path) =
    ap in_order (sym e.whole) ∙ (rw e.first at (plug_in_order s.path (node leaf s.thread s.right))) in
    balance_in_order l s.thread (rebuild s.path s.right) ∙ rw (now, was)

join_two : (l : Tree) (i : ℕ) (s : Successor) (r : Tree) → SuccessorIn [] r s → Balanced (node l i r)
    → Replaced s.path (node leaf s.thread s.right) s.right → Joined l i r (join_by l s)
join_two l i s r e a g =
    let same : height (plug s.path (node leaf s.thread s.right)) ≡ height r = ap height e.whole in
    let n = a.near in
    let m = g.near in
    let v = balance_balanced l s.thread (rebuild s.path s.right) a.left g.balanced (omega arith)
    (omega arith) in
    record { balanced = v.balanced; near = (omega arith, omega arith); in_order_lem = join_in_order l s r e }

-- What takes a removed node's place.
pub join_joins : (l : Tree) (i : ℕ) (r : Tree) → Balanced (node l i r) → Joined l i r (join l r)
unfolding in_order
join_joins leaf i r b =
    let n = b.near in record { balanced = b.right; near = (omega arith, omega arith); in_order_lem = refl }
join_joins (node a x c) i leaf b =
    let n = b.near in record { balanced = b.left; near = (omega arith, omega arith); in_order_lem = sym (append-nil _) }
join_joins (node a x c) i (node d j e) b =
    join_two (node a x c) i (successor_from [] d j e) (node d j e) (successor_in [] d j e) b
    (right_side (successor_from [] d j e) (node d j e) (successor_in [] d j e) b.right)

-- Removal of the node at the end of a path of a balanced tree gives a balanced tree.
pub removal_balanced : (z : List Frame) (l : Tree) (i : ℕ) (r : Tree) → Balanced (plug z (node l i r))
    → Balanced (remove_at z l r)
removal_balanced z l i r b =
    let v = balanced_at z (node l i r) b in
    let j = join_joins l i r v.subtree in
    (rebuild_balanced z (node l i r) (join l r) v.frames j.balanced j.near).balanced

-- The tree's threads in order are the earlier ones without i.
pub removal_in_order : (z : List Frame) (l : Tree) (i : ℕ) (r : Tree) → Balanced (node l i r)
    → Added (in_order (remove_at z l r)) i (in_order (plug z (node l i r)))
unfolding in_order
removal_in_order z l i r b = record {
  left = before z ++ in_order l;
  right = in_order r ++ after z;
  without = rebuild_in_order z (join l r) ∙ rw (join_joins l i r b).in_order_lem (simp append_assoc);
  with = plug_in_order z (node l i r) ∙ simp append_assoc;
}
