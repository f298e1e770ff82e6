-- Lists of threads without a key k: a store at a thread with that key leaves their trees.
use Rattle.std.specs.Prelude.{◌≡◌, ℕ, suc, ◌≤◌, ◌<◌}
use Rattle.std.proofs.Common.{◌∙◌, arith}
use mathlib.Core.List.{List, [], ◌∷◌, ◌++◌}
use Rattle.avl.specs.Tree.{Tree, leaf, node, in_order}
use Rattle.avl.specs.Path.{Frame, left_of, right_of, before, after}
use Rattle.thread.specs.declared.Links.{Links}
use Rattle.thread.specs.declared.ThreadRecord.{ThreadRecord}
use Rattle.sound_index.specs.Holds.{stored}
use Rattle.sound_index.specs.TableLaws.{stored_other}
use Rattle.sound_index.specs.Represents.{Represents, Away, Frames}
use Rattle.sound_index.specs.RepresentsLaws.{apart}

module _ (ranks key : ℕ → ℕ) (k : ℕ) where
  pub away_append : (a b : List ℕ) → Away ranks key k a → Away ranks key k b → Away ranks key k (a ++ b)
  away_append [] b p q = q
  away_append (j ∷ a) b p q = record { here = p.here; rest = away_append a b p.rest q }

  away_first : (a b : List ℕ) → Away ranks key k (a ++ b) → Away ranks key k a
  away_first [] b p = tt
  away_first (j ∷ a) b p = record { here = p.here; rest = away_first a b p.rest }

  away_last : (a b : List ℕ) → Away ranks key k (a ++ b) → Away ranks key k b
  away_last [] b p = p
  away_last (j ∷ a) b p = away_last a b p.rest

  pub away_above : (t : List ThreadRecord) (lo hi : ℕ) (x : Tree) → k < lo → Represents ranks key t lo hi x
      → Away ranks key k (in_order x)
  unfolding in_order
  away_above t lo hi leaf h p = tt
  away_above t lo hi (node l i r) h p = away_append (in_order l) (i ∷ in_order r) (away_above t lo (key i) l h p.left)
      (record { here = omega arith; rest = away_above t (suc (key i)) hi r (omega arith) p.right })

  pub away_below : (t : List ThreadRecord) (lo hi : ℕ) (x : Tree) → hi ≤ k → Represents ranks key t lo hi x
      → Away ranks key k (in_order x)
  unfolding in_order
  away_below t lo hi leaf h p = tt
  away_below t lo hi (node l i r) h p =
      away_append (in_order l) (i ∷ in_order r) (away_below t lo (key i) l (omega arith) p.left)
      (record { here = omega arith; rest = away_below t (suc (key i)) hi r h p.right })

  pub away_before : (t : List ThreadRecord) (lo hi LO HI : ℕ) (z : List Frame) → lo ≤ k
      → Frames ranks key t lo hi LO HI z → Away ranks key k (before z)
  unfolding before
  away_before t lo hi LO HI [] h p = tt
  away_before t lo hi LO HI (left_of i r ∷ z) h p = away_before t lo p.end LO HI z h p.up
  away_before t lo hi LO HI (right_of l i ∷ z) h p = away_append (before z ++ in_order l) (i ∷ [])
      (away_append (before z) (in_order l) (away_before t p.end hi LO HI z (omega arith) p.up)
      (away_below t p.end (key i) l (omega arith) p.side))
      (record { here = omega arith; rest = tt })

  pub away_after : (t : List ThreadRecord) (lo hi LO HI : ℕ) (z : List Frame) → k < hi
      → Frames ranks key t lo hi LO HI z → Away ranks key k (after z)
  unfolding after
  away_after t lo hi LO HI [] h p = tt
  away_after t lo hi LO HI (left_of i r ∷ z) h p = record {
    here = omega arith;
    rest =
        away_append (in_order r) (after z) (away_above t (suc (key i)) p.end r (omega arith) p.side)
        (away_after t lo p.end LO HI z (omega arith) p.up);
  }
  away_after t lo hi LO HI (right_of l i ∷ z) h p = away_after t p.end hi LO HI z h p.up

  pub stored_away : (t : List ThreadRecord) (lo hi i : ℕ) (c : Links) (x : Tree) → key i ≡ k
      → Away ranks key k (in_order x) → Represents ranks key t lo hi x → Represents ranks key (stored t i c) lo hi x
  unfolding in_order
  stored_away t lo hi i c leaf e w p = tt
  stored_away t lo hi i c (node l j r) e w p =
      let v = away_last (in_order l) (j ∷ in_order r) w in
      record {
        ge = p.ge;
        lt = p.lt;
        tie = p.tie;
        cell = stored_other t i j c (apart ranks key i j (λ q. v.here (q ∙ e))) ∙ p.cell;
        left = stored_away t lo (key j) i c l e (away_first (in_order l) (j ∷ in_order r) w) p.left;
        right = stored_away t (suc (key j)) hi i c r e v.rest p.right;
      }
