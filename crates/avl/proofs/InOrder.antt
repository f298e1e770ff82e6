-- Rotations, balancing and rebuilding keep the in-order list.
use Rattle.std.specs.Prelude.{◌≡◌, refl, ℕ, Bool, true, false, List, [], ◌∷◌, ◌++◌, ltb}
use Rattle.std.proofs.Common.{sym, ap, ◌∙◌, append_assoc, append-nil}
use Rattle.refusal.specs.Cases.{choose}
use Rattle.avl.specs.declared.Lean.{Lean}
use Rattle.avl.specs.declared.Lean.TheVariants.{Left, Right, Even}
use Rattle.avl.specs.Tree.{Tree, leaf, node, height, in_order, leftmost}
use Rattle.avl.specs.Rotation.{lean_of, rotate_left, rotate_right, outward_left, outward_right, balance_by, balance}
use Rattle.avl.specs.Path.{Frame, left_of, right_of, plug, rebuild, before, after}

rotate_left_in_order : (l : Tree) (i : ℕ) (r : Tree) → in_order (rotate_left l i r) ≡ in_order l ++ i ∷ in_order r
unfolding rotate_left in_order
rotate_left_in_order l i leaf = refl
rotate_left_in_order l i (node a j b) = simp append_assoc

rotate_right_in_order : (l : Tree) (i : ℕ) (r : Tree) → in_order (rotate_right l i r) ≡ in_order l ++ i ∷ in_order r
unfolding rotate_right in_order
rotate_right_in_order leaf i r = refl
rotate_right_in_order (node a j b) i r = simp append_assoc

choose_in_order : (x : Bool) (s t : Tree) → in_order s ≡ in_order t → in_order (choose x s t) ≡ in_order t
unfolding choose
choose_in_order true s t e = e
choose_in_order false s t e = refl

outward_left_in_order : (t : Tree) → in_order (outward_left t) ≡ in_order t
unfolding outward_left in_order
outward_left_in_order leaf = refl
outward_left_in_order (node a j b) =
    choose_in_order (ltb (height a) (height b)) (rotate_left a j b) (node a j b) (rotate_left_in_order a j b)

outward_right_in_order : (t : Tree) → in_order (outward_right t) ≡ in_order t
unfolding outward_right in_order
outward_right_in_order leaf = refl
outward_right_in_order (node a j b) =
    choose_in_order (ltb (height b) (height a)) (rotate_right a j b) (node a j b) (rotate_right_in_order a j b)

balance_by_in_order : (s : Lean) (l : Tree) (i : ℕ) (r : Tree)
    → in_order (balance_by s l i r) ≡ in_order l ++ i ∷ in_order r
unfolding balance_by in_order
balance_by_in_order Left l i r =
    rotate_right_in_order (outward_left l) i r ∙ ap (λ x. x ++ i ∷ in_order r) (outward_left_in_order l)
balance_by_in_order Right l i r =
    rotate_left_in_order l i (outward_right r) ∙ ap (λ x. in_order l ++ i ∷ x) (outward_right_in_order r)
balance_by_in_order Even l i r = refl

-- Balancing a node keeps the in-order list.
pub balance_in_order : (l : Tree) (i : ℕ) (r : Tree) → in_order (balance l i r) ≡ in_order l ++ i ∷ in_order r
unfolding balance
balance_in_order l i r = balance_by_in_order (lean_of (height l) (height r)) l i r

-- A tree's list is what lies before the path, at its end and after it.
pub plug_in_order : (z : List Frame) (t : Tree) → in_order (plug z t) ≡ before z ++ in_order t ++ after z
unfolding before after in_order
plug_in_order [] t = sym (append-nil (in_order t))
plug_in_order (left_of i r ∷ z) t = plug_in_order z (node t i r) ∙ simp append_assoc
plug_in_order (right_of l i ∷ z) t = plug_in_order z (node l i t) ∙ simp append_assoc

-- Rebuilding keeps it.
pub rebuild_in_order : (z : List Frame) (t : Tree) → in_order (rebuild z t) ≡ before z ++ in_order t ++ after z
unfolding before after
rebuild_in_order [] t = sym (append-nil (in_order t))
rebuild_in_order (left_of i r ∷ z) t = rebuild_in_order z (balance t i r) ∙ simp (balance_in_order, append_assoc)
rebuild_in_order (right_of l i ∷ z) t = rebuild_in_order z (balance l i t) ∙ simp (balance_in_order, append_assoc)

-- The leftmost thread is the first of the list.
pub leftmost_first : (l : Tree) (i : ℕ) (r : Tree) → (rest : List ℕ) × (in_order (node l i r) ≡ leftmost l i r ∷ rest)
unfolding in_order
leftmost_first leaf i r = (in_order r, refl)
leftmost_first (node a j b) i r = let h = leftmost_first a j b in (h.0 ++ i ∷ in_order r, rw h.1)
