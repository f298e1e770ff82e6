-- A balanced tree of height h has at least F(h + 2) − 1 nodes, so its height is bounded by their number.
use Rattle.std.specs.Prelude.{◌≡◌, refl, ℕ, zero, suc, ◌+◌, ◌-◌, ◌≤◌, ◌<◌, max, List, [], ◌∷◌, length}
use Rattle.std.proofs.Common.{◌∙◌, arith, le_trans, le_refl, add-zero, add-suc, add-sub_of_le, length-append, lit≤}
use Rattle.std.proofs.Math.Nat.{max-eq_left, max-eq_right}
use Rattle.std.proofs.Math.Decide.{dec_le}
use Rattle.avl.specs.Tree.{Tree, leaf, node, height, in_order, size, Balanced}
use Rattle.avl.specs.Path.{Frame, left_of, right_of, plug}
use Rattle.avl.specs.Fibonacci.{fibonacci}

fibonacci_step : (n : ℕ) → fibonacci (suc n) ≤ fibonacci (suc (suc n))
unfolding fibonacci
fibonacci_step n = omega arith

fibonacci_rises : (a d : ℕ) → fibonacci (suc a) ≤ fibonacci (suc (a + d))
fibonacci_rises a zero = simp add-zero (le_refl _)
fibonacci_rises a (suc d) = rw add-suc (le_trans (fibonacci_rises a d) (fibonacci_step (a + d)))

fibonacci_monotone : (a b : ℕ) → a ≤ b → fibonacci (suc a) ≤ fibonacci (suc b)
fibonacci_monotone a b h = rw (add-sub_of_le h) at (fibonacci_rises a (b - a))

-- Of two heights that differ by at most one, the higher second.
two_sides : (a b : ℕ) → a ≤ b → b ≤ suc a
    → fibonacci (suc (suc (suc b))) ≤ fibonacci (suc (suc a)) + fibonacci (suc (suc b))
unfolding fibonacci
two_sides a b p q = omega (arith, fibonacci_monotone b (suc a) q)

either_way : (a b : ℕ) → a ≤ b + 1 → b ≤ a + 1
    → fibonacci (suc (suc (suc (max a b)))) ≤ fibonacci (suc (suc a)) + fibonacci (suc (suc b))
either_way a b p q = go (dec_le a b)
  where
    go : Dec (a ≤ b) → fibonacci (suc (suc (suc (max a b)))) ≤ fibonacci (suc (suc a)) + fibonacci (suc (suc b))
    go (yes h) = rw (max-eq_right h) (two_sides a b h (omega arith))
    go (no h) = let k : b ≤ a = omega arith in rw (max-eq_left k) (omega (arith, two_sides b a k (omega arith)))

least_plus_one : (t : Tree) → Balanced t → fibonacci (suc (suc (height t))) ≤ suc (size t)
unfolding fibonacci
least_plus_one leaf b = le_refl 1
least_plus_one (node l i r) b =
    omega (
      arith,
      either_way (height l) (height r) b.near.0 b.near.1,
      least_plus_one l b.left,
      least_plus_one r b.right,
    )

-- A balanced tree of height h has at least F(h + 2) − 1 nodes.
pub least_nodes : (t : Tree) → Balanced t → fibonacci (height t + 2) - 1 ≤ size t
least_nodes t b = let e : height t + 2 ≡ suc (suc (height t)) = omega arith in rw e (omega (arith, least_plus_one t b))

-- A balanced tree with fewer than F(h + 3) − 1 nodes has height h at most.
pub height_bound : (h : ℕ) (t : Tree) → Balanced t → suc (size t) < fibonacci (suc (suc (suc h))) → height t ≤ h
height_bound h t b n = go (dec_le (height t) h)
  where
    go : Dec (height t ≤ h) → height t ≤ h
    go (yes k) = k
    go (no k) =
        absurd (omega (arith, least_plus_one t b, fibonacci_monotone (suc (suc h)) (suc (height t)) (omega arith)))

-- F(19) = 4,181, so 4,096 nodes make a tree of height 16 at most.
pub height_of_table : (t : Tree) → Balanced t → size t ≤ 4096 → height t ≤ 16
unfolding fibonacci
height_of_table t b n = let f : 4181 ≤ fibonacci 19 = lit≤ tt in height_bound 16 t b (omega (arith, f))

-- F(11) = 89, so 64 nodes make a tree of height 8 at most.
pub height_of_small_table : (t : Tree) → Balanced t → size t ≤ 64 → height t ≤ 8
unfolding fibonacci
height_of_small_table t b n = let f : 89 ≤ fibonacci 11 = lit≤ tt in height_bound 8 t b (omega (arith, f))

-- The list has as many threads as the tree has nodes.
pub in_order_length : (t : Tree) → length (in_order t) ≡ size t
unfolding in_order
in_order_length leaf = refl
in_order_length (node l i r) =
    length-append (in_order l) (i ∷ in_order r) ∙ omega (arith, in_order_length l, in_order_length r)

-- A path and the subtree at its end are no longer than the tree is high.
pub path_length : (z : List Frame) (t : Tree) → length z + height t ≤ height (plug z t)
path_length [] t = omega arith
path_length (left_of i r ∷ z) t = omega (arith, path_length z (node t i r))
path_length (right_of l i ∷ z) t = omega (arith, path_length z (node l i t))
