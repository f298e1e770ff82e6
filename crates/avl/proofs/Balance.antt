-- Balancing a node whose balanced sides differ by at most two gives a balanced tree.
use Rattle.std.specs.Prelude.{◌≡◌, refl, ℕ, suc, ◌+◌, ◌≤◌, ◌<◌, max, min, Bool, true, false, ltb}
use Rattle.std.proofs.Common.{arith, ltb-true, ltb-false}
use Rattle.refusal.specs.Cases.{choose}
use Rattle.avl.specs.declared.Lean.{Lean}
use Rattle.avl.specs.declared.Lean.TheVariants.{Left, Right, Even}
use Rattle.avl.specs.Tree.{Tree, leaf, node, height, Balanced}
use Rattle.avl.specs.Rotation.{lean_of, rotate_left, rotate_right, outward_left, outward_right, balance_by, balance}
use Rattle.avl.specs.RotationLaws.{Leans, leans}

-- t is balanced, and as high as a node over sides of heights a and b, or one less.
pub record Rebalanced (t : Tree) (a b : ℕ) : Type 0 where
  pub balanced : Balanced t
  pub least : max a b ≤ height t
  pub above_lower : min a b < height t
  pub most : height t ≤ suc (max a b)

-- A single rotation to the right: the left side is two higher, and its outer side is not the lower one.
single_right : (a : Tree) (j : ℕ) (b : Tree) (i : ℕ) (r : Tree) → Balanced (node a j b) → Balanced r
    → height b ≤ height a → suc (height a) ≡ height r + 2
    → Rebalanced (node a j (node b i r)) (suc (max (height a) (height b))) (height r)
single_right a j b i r x y le eq = let n = x.near in record {
  balanced = record {
    left = x.left;
    right = record { left = x.right; right = y; near = (omega arith, omega arith) };
    near = (omega arith, omega arith);
  };
  least = omega arith;
  above_lower = omega arith;
  most = omega arith;
}

-- A single rotation to the left.
single_left : (l : Tree) (i : ℕ) (a : Tree) (j : ℕ) (b : Tree) → Balanced l → Balanced (node a j b)
    → height a ≤ height b → suc (height b) ≡ height l + 2
    → Rebalanced (node (node l i a) j b) (height l) (suc (max (height a) (height b)))
single_left l i a j b x y le eq = let n = y.near in record {
  balanced = record {
    left = record { left = x; right = y.left; near = (omega arith, omega arith) };
    right = y.right;
    near = (omega arith, omega arith);
  };
  least = omega arith;
  above_lower = omega arith;
  most = omega arith;
}

-- A double rotation, to either side: c and d are the inner grandchildren, k their parent.
double : (a : Tree) (j : ℕ) (c : Tree) (k : ℕ) (d : Tree) (i : ℕ) (r : Tree) → Balanced a → Balanced c → Balanced d
    → Balanced r
    → height c ≤ height d + 1 → height d ≤ height c + 1 → height a ≡ height r → max (height c) (height d) ≡ height a
    → (left right : ℕ) → max left right ≡ height a + 2 → min left right ≡ height a
    → Rebalanced (node (node a j c) k (node d i r)) left right
double a j c k d i r xa xc xd xr p q e m left right high low = record {
  balanced = record {
    left = record { left = xa; right = xc; near = (omega arith, omega arith) };
    right = record { left = xd; right = xr; near = (omega arith, omega arith) };
    near = (omega arith, omega arith);
  };
  least = omega arith;
  above_lower = omega arith;
  most = omega arith;
}

left_by_test : (t : Bool) (a : Tree) (j : ℕ) (b : Tree) (i : ℕ) (r : Tree) → ltb (height a) (height b) ≡ t
    → Balanced (node a j b) → Balanced r
    → height (node a j b) ≡ height r + 2
    → Rebalanced (rotate_right (choose t (rotate_left a j b) (node a j b)) i r) (suc (max (height a) (height b)))
    (height r)
unfolding rotate_right rotate_left choose
left_by_test true a j leaf i r p x y e = absurd (omega (arith, ltb-true))
left_by_test true a j (node c k d) i r p x y e =
    let lt : height a < suc (max (height c) (height d)) = ltb-true _ _ p in
    let n = x.near in
    let m = x.right.near in
    double a j c k d i r x.left x.right.left x.right.right y m.0 m.1 (omega arith)
    (omega arith) _ _ (omega arith) (omega arith)
left_by_test false a j b i r p x y e =
    let ge : height b ≤ height a = ltb-false _ _ p in single_right a j b i r x y ge (omega arith)

left_high : (l : Tree) (i : ℕ) (r : Tree) → Balanced l → Balanced r → height l ≡ height r + 2
    → Rebalanced (rotate_right (outward_left l) i r) (height l) (height r)
unfolding outward_left
left_high leaf i r x y e = absurd (omega arith)
left_high (node a j b) i r x y e = left_by_test (ltb (height a) (height b)) a j b i r refl x y e

right_by_test : (t : Bool) (l : Tree) (i : ℕ) (a : Tree) (j : ℕ) (b : Tree) → ltb (height b) (height a) ≡ t → Balanced l
    → Balanced (node a j b)
    → height (node a j b) ≡ height l + 2
    → Rebalanced (rotate_left l i (choose t (rotate_right a j b) (node a j b))) (height l)
    (suc (max (height a) (height b)))
unfolding rotate_right rotate_left choose
right_by_test true l i leaf j b p x y e = absurd (omega (arith, ltb-true))
right_by_test true l i (node c k d) j b p x y e =
    let lt : height b < suc (max (height c) (height d)) = ltb-true _ _ p in
    let n = y.near in
    let m = y.left.near in
    double l i c k d j b x y.left.left y.left.right y.right m.0 m.1 (omega arith)
    (omega arith) _ _ (omega arith) (omega arith)
right_by_test false l i a j b p x y e =
    let ge : height a ≤ height b = ltb-false _ _ p in single_left l i a j b x y ge (omega arith)

right_high : (l : Tree) (i : ℕ) (r : Tree) → Balanced l → Balanced r → height r ≡ height l + 2
    → Rebalanced (rotate_left l i (outward_right r)) (height l) (height r)
unfolding outward_right
right_high l i leaf x y e = absurd (omega arith)
right_high l i (node a j b) x y e = right_by_test (ltb (height b) (height a)) l i a j b refl x y e

balance_by_balanced : (s : Lean) (l : Tree) (i : ℕ) (r : Tree) → Leans s (height l) (height r) → Balanced l → Balanced r
    → height l ≤ height r + 2 → height r ≤ height l + 2 → Rebalanced (balance_by s l i r) (height l) (height r)
unfolding balance_by
balance_by_balanced Left l i r k x y p q = left_high l i r x y (omega arith)
balance_by_balanced Right l i r k x y p q = right_high l i r x y (omega arith)
balance_by_balanced Even l i r k x y p q = record {
  balanced = record { left = x; right = y; near = k };
  least = omega arith;
  above_lower = omega arith;
  most = omega arith;
}

-- Balancing a node whose balanced sides differ by at most two gives a balanced tree.
pub balance_balanced : (l : Tree) (i : ℕ) (r : Tree) → Balanced l → Balanced r → height l ≤ height r + 2
    → height r ≤ height l + 2
    → Rebalanced (balance l i r) (height l) (height r)
unfolding balance
balance_balanced l i r x y p q =
    balance_by_balanced (lean_of (height l) (height r)) l i r (leans (height l) (height r)) x y p q

-- Of any two sides, balanced or not, the height grows by one at most.
left_height : (s : Bool) (a : Tree) (j : ℕ) (b : Tree) (i : ℕ) (r : Tree) → ltb (height a) (height b) ≡ s
    → height r + 1 < height (node a j b)
    → height (rotate_right (choose s (rotate_left a j b) (node a j b)) i r) ≤ suc (height (node a j b))
unfolding rotate_right rotate_left choose
left_height true a j leaf i r e k = absurd (omega (arith, ltb-true))
left_height true a j (node c m d) i r e k = let h : height a < height (node c m d) = ltb-true _ _ e in omega arith
left_height false a j b i r e k = omega arith

right_height : (s : Bool) (l : Tree) (i : ℕ) (a : Tree) (j : ℕ) (b : Tree) → ltb (height b) (height a) ≡ s
    → height l + 1 < height (node a j b)
    → height (rotate_left l i (choose s (rotate_right a j b) (node a j b))) ≤ suc (height (node a j b))
unfolding rotate_right rotate_left choose
right_height true l i leaf j b e k = absurd (omega (arith, ltb-true))
right_height true l i (node c m d) j b e k = let h : height b < height (node c m d) = ltb-true _ _ e in omega arith
right_height false l i a j b e k = omega arith

balance_by_height : (s : Lean) (l : Tree) (i : ℕ) (r : Tree) → Leans s (height l) (height r)
    → height (balance_by s l i r) ≤ suc (max (height l) (height r))
unfolding balance_by outward_left outward_right
balance_by_height Left leaf i r k = absurd (omega arith)
balance_by_height Left (node a j b) i r k = omega (arith, left_height (ltb (height a) (height b)) a j b i r refl k)
balance_by_height Right l i leaf k = absurd (omega arith)
balance_by_height Right l i (node a j b) k = omega (arith, right_height (ltb (height b) (height a)) l i a j b refl k)
balance_by_height Even l i r k = omega arith

-- Balancing a node raises no height by more than the node itself.
pub balance_height : (l : Tree) (i : ℕ) (r : Tree) → height (balance l i r) ≤ suc (max (height l) (height r))
unfolding balance
balance_height l i r = balance_by_height (lean_of (height l) (height r)) l i r (leans (height l) (height r))
