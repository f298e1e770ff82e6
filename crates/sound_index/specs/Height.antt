-- A table of up to 4,096 records holds no balanced tree that is higher than 16. That its paths are no longer leans on
-- this: proofs/Height.antt.
use Rattle.std.specs.Prelude.{◌≡◌, Bool, ◌≢◌, ℕ, zero, suc, ◌≤◌, ◌<◌, length, eqb}
use Rattle.std.proofs.Math.Path.{refl, ap}
use Rattle.std.proofs.Math.Bool.{true, false}
use mathlib.Core.List.{List, [], ◌∷◌}
use native.Mathlib.Omega.{arith}
use Rattle.std.proofs.Common.{le_refl}
use borrow.Author.Tests.{eqb-true, eqb-false, ne_eqb}
use Rattle.refusal.specs.Cases.{choose}
use Rattle.avl.specs.Tree.{Tree, in_order, size, height, Balanced}
use Rattle.avl.specs.Size.{in_order_length, height_of_table}
use Rattle.thread.specs.declared.ThreadRecord.{ThreadRecord}
use Rattle.sound_index.specs.Holds.{Holds}
use Rattle.sound_index.specs.Rank.{rank}
use Rattle.sound_index.specs.Represents.{Up, Below}
use Rattle.sound_index.specs.HoldsLaws.{holds_represents, represents_up, linked_below}
use Rattle.rows.specs.Table.{max_records}

-- The list without n.
without : ℕ → List ℕ → List ℕ
without n [] = []
without n (a ∷ l) = choose (eqb a n) (without n l) (a ∷ without n l)

below_choose : (x : Bool) (n a : ℕ) (l : List ℕ) → (x ≡ false → a < n) → Below n l → Below n (choose x l (a ∷ l))
unfolding choose
below_choose true n a l h p = p
below_choose false n a l h p = record { here = h refl; rest = p }

below_without : (n : ℕ) (l : List ℕ) → Below (suc n) l → Below n (without n l)
unfolding without
below_without n [] p = tt
below_without n (a ∷ l) p =
    below_choose (eqb a n) n a (without n l) (λ e. let q : a ≢ n = eqb-false a n e in let h = p.here in omega arith)
    (below_without n l p.rest)

module _ (key : ℕ → ℕ) where
  up_from : (lo hi lo' : ℕ) (l : List ℕ) → lo' ≤ lo → Up key lo hi l → Up key lo' hi l
  up_from lo hi lo' [] a p = tt
  up_from lo hi lo' (j ∷ l) a p = let g = p.ge in record { ge = omega arith; lt = p.lt; rest = p.rest }

  -- n, whose key is below them all, is not there.
  without_none : (n lo hi : ℕ) (l : List ℕ) → key n < lo → Up key lo hi l → without n l ≡ l
  unfolding without choose
  without_none n lo hi [] h p = refl
  without_none n lo hi (a ∷ l) h p =
      let g = p.ge in
      rw (
        ne_eqb a n (λ e. let q : key a ≡ key n = ap key e in omega arith),
        without_none n (suc (key a)) hi l (omega arith) p.rest,
      )

  up_choose : (x : Bool) (lo hi a : ℕ) (l : List ℕ) → lo ≤ key a → key a < hi → Up key (suc (key a)) hi l
      → Up key lo hi (choose x l (a ∷ l))
  unfolding choose
  up_choose true lo hi a l g h p = up_from (suc (key a)) hi lo l (omega arith) p
  up_choose false lo hi a l g h p = record { ge = g; lt = h; rest = p }

  up_without : (n lo hi : ℕ) (l : List ℕ) → Up key lo hi l → Up key lo hi (without n l)
  unfolding without
  up_without n lo hi [] p = tt
  up_without n lo hi (a ∷ l) p =
      up_choose (eqb a n) lo hi a (without n l) p.ge p.lt (up_without n (suc (key a)) hi l p.rest)

  one_less : (x : Bool) (n hi a : ℕ) (l : List ℕ) → eqb a n ≡ x → Up key (suc (key a)) hi l
      → length l ≤ suc (length (without n l))
      → suc (length l) ≤ suc (length (choose x (without n l) (a ∷ without n l)))
  unfolding choose
  one_less true n hi a l e p q =
      let h : key a ≡ key n = ap key (eqb-true a n e) in
      rw (without_none n (suc (key a)) hi l (omega arith) p) (le_refl _)
  one_less false n hi a l e p q = omega arith

  length_without : (n lo hi : ℕ) (l : List ℕ) → Up key lo hi l → length l ≤ suc (length (without n l))
  unfolding without
  length_without n lo hi [] p = omega arith
  length_without n lo hi (a ∷ l) p =
      one_less (eqb a n) n hi a l refl p.rest (length_without n (suc (key a)) hi l p.rest)

  -- In strict order, at most n threads are below n.
  pigeonhole : (n lo hi : ℕ) (l : List ℕ) → Below n l → Up key lo hi l → length l ≤ n
  pigeonhole zero lo hi [] b p = le_refl _
  pigeonhole zero lo hi (j ∷ l) b p = let h = b.here in absurd (omega arith)
  pigeonhole (suc n) lo hi l b p =
      omega (
        arith,
        length_without n lo hi l p,
        pigeonhole n lo hi (without n l) (below_without n l b) (up_without n lo hi l p),
      )

-- A tree that a table holds has at most as many nodes as the table has records.
pub held_size : (t : List ThreadRecord) (x : Tree) → Holds t x → size x ≤ length t
held_size t x h =
    omega (
      arith,
      in_order_length x,
      pigeonhole (rank t) (length t) 0 (suc (length t)) (in_order x) (linked_below t x h.linked)
          (represents_up (rank t) (rank t) t 0 (suc (length t)) x (holds_represents t x h)),
    )

-- 4,096 records give height 16 at most.
pub held_height : (t : List ThreadRecord) (x : Tree) → Holds t x → Balanced x → length t ≤ max_records → height x ≤ 16
held_height t x h b n = height_of_table x b (omega (arith, held_size t x h))
