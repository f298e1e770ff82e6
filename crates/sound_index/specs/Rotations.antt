-- On a table that represents a tree, update, the rotations and balance do what those of trees do.
use Rattle.std.specs.Prelude.{◌≡◌, List, Bool, ℕ, suc, ◌≤◌, ◌<◌, max, ltb, Some, Ok, Err}
use Rattle.refusal.specs.Answer.{damage}
use Rattle.std.proofs.Math.Path.{refl}
use Rattle.std.proofs.Common.{sym, ◌∙◌, arith, le_refl}
use Rattle.std.proofs.Math.Bool.{true, false}
use Rattle.std.proofs.Math.Nat.{max-eq_left, max-eq_right}
use Rattle.std.proofs.Math.Numerals.{add-one}
use borrow.Author.Tests.{ltb-true, ltb-false, lt-ltb}
use Rattle.refusal.specs.Cases.{choose, if_less, given}
use Rattle.avl.specs.declared.Lean.{Lean}
use Rattle.avl.specs.declared.Lean.TheVariants.{Left, Right, Even}
use Rattle.avl.specs.Tree.{Tree, leaf, node}
use Rattle.avl.specs.Tree as tree
use Rattle.avl.specs.Rotation.{lean_of, on_lean, outward_left, outward_right, balance_by}
use Rattle.avl.specs.Rotation as rotation
use Rattle.avl.specs.RotationLaws.{Leans, leans}
use Rattle.thread.specs.declared.Links.{Links}
use Rattle.thread.specs.declared.ThreadRecord.{ThreadRecord}
use Rattle.thread.specs.Membership.{on_link}
use Rattle.rows.specs.Table.{out, links_at, set_links}
use Rattle.rows.specs.TableCases.{on_links, on_made}
use Rattle.rotations.specs.Cases.{on_height, on_turned}
use Rattle.rotations.specs.Balance.{height, larger, update, rotate_left, rotate_right, balance_left, balance_right}
use Rattle.rotations.specs.Balance.{balance}
use Rattle.sound_index.specs.Holds.{stored, root, links_over}
use Rattle.sound_index.specs.TableLaws.{set_made, stored_other}
use Rattle.sound_index.specs.Represents.{links_by, Represents, Opened, Turns}
use Rattle.sound_index.specs.RepresentsLaws.{opened, apart, stored_below, stored_above, kept_store, kept_trans}
use Rattle.sound_index.specs.RepresentsLaws.{kept_between, keep_below, keep_above, put, put_opened}

larger_max : (a b : ℕ) → larger a b ≡ max a b
unfolding larger if_less choose
larger_max a b = go (ltb a b) refl
  where
    go : (x : Bool) → ltb a b ≡ x → choose x b a ≡ max a b
    go true e = let h : a < b = ltb-true _ _ e in let k : a ≤ b = omega arith in sym (max-eq_right k)
    go false e = sym (max-eq_left (ltb-false _ _ e))

module _ (ranks key : ℕ → ℕ) where
  -- The stored height is the tree's.
  pub height_is : (t : List ThreadRecord) (lo hi : ℕ) (x : Tree) → Represents ranks key t lo hi x
      → height t (root x) ≡ Ok (tree.height x)
  unfolding height on_link on_links
  height_is t lo hi leaf p = refl
  height_is t lo hi (node l i r) p = rw p.cell

  -- An update stores the node over its two sides.
  pub update_is : (t : List ThreadRecord) (lo hi lo' hi' : ℕ) (l : Tree) (i : ℕ) (r : Tree) (c : Links) (h : ℕ)
      → links_at t i ≡ Ok c
      → Represents ranks key t lo hi l → Represents ranks key t lo' hi' r → max (tree.height l) (tree.height r) < 255
      → update t i (links_by (root l) (root r) h) ≡ out (Ok tt) (stored t i (links_over l r))
  unfolding update on_height given if_less choose
  update_is t lo hi lo' hi' l i r c h e p q s =
      rw (
        height_is t lo hi l p,
        height_is t lo' hi' r q,
        larger_max (tree.height l) (tree.height r),
        lt-ltb (max (tree.height l) (tree.height r)) 255 s,
        add-one,
      )
      (set_made t i (links_over l r) c e)

  pub rotate_right_is : (t : List ThreadRecord) (lo hi : ℕ) (a : Tree) (j : ℕ) (b : Tree) (i : ℕ) (r : Tree)
      → Opened ranks key t lo hi (node a j b) i r
      → tree.height a < 250 → tree.height b < 250 → tree.height r < 250
      → Turns ranks key t lo hi (rotate_right t i) (node a j (node b i r))
  unfolding rotate_right on_links on_link on_made
  rotate_right_is t lo hi a j b i r o ha hb hr =
      let p = o.left in
      let t₁ = stored t i (links_over b r) in
      let t₂ = stored t₁ j (links_over a (node b i r)) in
      let n : Represents ranks key t₁ (suc (key j)) hi (node b i r) = put ranks key t (suc (key j)) hi b i r _ o.cell
      o.tie p.lt o.lt p.right o.right in
      let a₁ : Represents ranks key t₁ lo (key j) a = stored_above ranks key t lo (key j) i _ a (omega arith)
      p.left in
      let e₁ : links_at t₁ j ≡ Ok (links_over a b) = stored_other t i j _ (apart ranks key i j (omega arith))
      ∙ p.cell in
      record {
        table = t₂;
        top = j;
        at_top = refl;
        is = rw (
          o.cell,
          p.cell,
          update_is t (suc (key j)) (key i) (suc (key i)) hi b i r _ o.old o.cell
              p.right o.right (omega arith),
          update_is t₁ lo (key j) (suc (key j)) hi a j (node b i r) _ _ e₁ a₁ n (omega arith),
        );
        represents = put ranks key t₁ lo hi a j (node b i r) _ e₁ p.tie p.ge (omega arith) a₁ n;
        kept = kept_trans ranks key t lo hi t₁ lo hi t₂ (kept_store ranks key t lo hi i _ o.ge o.lt)
            (kept_store ranks key t₁ lo hi j _ p.ge (omega arith)) lo hi (omega arith) (omega arith) (omega arith)
            (omega arith);
      }

  pub rotate_left_is : (t : List ThreadRecord) (lo hi : ℕ) (l : Tree) (i : ℕ) (a : Tree) (j : ℕ) (b : Tree)
      → Opened ranks key t lo hi l i (node a j b)
      → tree.height l < 250 → tree.height a < 250 → tree.height b < 250
      → Turns ranks key t lo hi (rotate_left t i) (node (node l i a) j b)
  unfolding rotate_left on_links on_link on_made
  rotate_left_is t lo hi l i a j b o hl ha hb =
      let p = o.right in
      let t₁ = stored t i (links_over l a) in
      let t₂ = stored t₁ j (links_over (node l i a) b) in
      let n : Represents ranks key t₁ lo (key j) (node l i a) = put ranks key t lo (key j) l i a _ o.cell o.tie
      o.ge p.ge o.left p.left in
      let b₁ : Represents ranks key t₁ (suc (key j)) hi b = stored_below ranks key t (suc (key j)) hi i _ b
      (omega arith) p.right in
      let e₁ : links_at t₁ j ≡ Ok (links_over a b) = stored_other t i j _ (apart ranks key i j (omega arith))
      ∙ p.cell in
      record {
        table = t₂;
        top = j;
        at_top = refl;
        is = rw (
          o.cell,
          p.cell,
          update_is t lo (key i) (suc (key i)) (key j) l i a _ o.old o.cell o.left
              p.left (omega arith),
          update_is t₁ lo (key j) (suc (key j)) hi (node l i a) j b _ _ e₁ n b₁ (omega arith),
        );
        represents = put ranks key t₁ lo hi (node l i a) j b _ e₁ p.tie (omega arith) p.lt n b₁;
        kept = kept_trans ranks key t lo hi t₁ lo hi t₂ (kept_store ranks key t lo hi i _ o.ge o.lt)
            (kept_store ranks key t₁ lo hi j _ (omega arith) p.lt) lo hi (omega arith) (omega arith) (omega arith)
            (omega arith);
      }

  -- The second half of a double rotation to the right, after the left child's.
  double_right_lem : (t : List ThreadRecord) (lo hi : ℕ) (l : Tree) (i : ℕ) (r : Tree) (j : ℕ) (a : Tree) (k : ℕ)
      (b : Tree)
      (o : Opened ranks key t lo hi l i r)
      → Turns ranks key t lo (key i) (rotate_left t j) (node a k b) → tree.height a < 250 → tree.height b < 250
      → tree.height r < 250
      → Turns ranks key t lo hi
      (on_turned (rotate_left t j) (out (Err damage))
      (λ top t₁. on_made (set_links t₁ i (links_by (Some top) (root r) o.old)) (out (Err damage))
      (λ t₂. rotate_right t₂ i)))
      (node a k (node b i r))
  unfolding on_turned on_made
  double_right_lem t lo hi l i r j a k b o f ha hb hr =
      let e₁ : links_at f.table i ≡ Ok (links_by (root l) (root r) o.old) = f.kept.above i (le_refl _)
      ∙ o.cell in
      let o₂ : Opened ranks key (stored f.table i (links_by (Some k) (root r) o.old)) lo hi (node a k b) i r =
      put_opened ranks key f.table lo hi (node a k b) i r _ o.old e₁ o.tie o.ge o.lt f.represents
      (keep_above ranks key t lo (key i) f.table (suc (key i)) hi r f.kept (omega arith) o.right) in
      let g = rotate_right_is _ lo hi a k b i r o₂ ha hb hr in
      record {
        table = g.table;
        top = g.top;
        at_top = g.at_top;
        represents = g.represents;
        is = rw (f.is, ← f.at_top, set_made f.table i (links_by (Some k) (root r) o.old) _ e₁) g.is;
        kept =
            kept_between ranks key t lo hi f.table i _ g.table lo (key i) o.ge o.lt (omega arith)
            (omega arith) f.kept g.kept;
      }

  turn_right : (s : Bool) (t : List ThreadRecord) (lo hi : ℕ) (a : Tree) (j : ℕ) (b : Tree) (i : ℕ) (r : Tree)
      (o : Opened ranks key t lo hi (node a j b) i r)
      → ltb (tree.height a) (tree.height b) ≡ s → tree.height (node a j b) < 200 → tree.height r < 200
      → Turns ranks key t lo hi
      (choose s
      (on_turned (rotate_left t j) (out (Err damage))
      (λ top t₁. on_made (set_links t₁ i (links_by (Some top) (root r) o.old)) (out (Err damage))
      (λ t₂. rotate_right t₂ i)))
      (rotate_right t i))
      (rotation.rotate_right (choose s (rotation.rotate_left a j b) (node a j b)) i r)
  unfolding choose rotation.rotate_right rotation.rotate_left
  turn_right false t lo hi a j b i r o e hl hr =
      rotate_right_is t lo hi a j b i r o (omega arith) (omega arith) (omega arith)
  turn_right true t lo hi a j leaf i r o e hl hr = absurd (omega (arith, ltb-true))
  turn_right true t lo hi a j (node c k d) i r o e hl hr =
      double_right_lem t lo hi (node a j (node c k d)) i r j (node a j c) k d o
      (rotate_left_is t lo (key i) a j c k d (opened ranks key t lo (key i) a j (node c k d) o.left) (omega arith)
      (omega arith) (omega arith))
      (omega arith) (omega arith) (omega arith)

  -- The second half of a double rotation to the left, after the right child's.
  double_left_lem : (t : List ThreadRecord) (lo hi : ℕ) (l : Tree) (i : ℕ) (r : Tree) (j : ℕ) (a : Tree) (k : ℕ)
      (b : Tree)
      (o : Opened ranks key t lo hi l i r)
      → Turns ranks key t (suc (key i)) hi (rotate_right t j) (node a k b) → tree.height l < 250 → tree.height a < 250
      → tree.height b < 250
      → Turns ranks key t lo hi
      (on_turned (rotate_right t j) (out (Err damage))
      (λ top t₁. on_made (set_links t₁ i (links_by (root l) (Some top) o.old)) (out (Err damage))
      (λ t₂. rotate_left t₂ i)))
      (node (node l i a) k b)
  unfolding on_turned on_made
  double_left_lem t lo hi l i r j a k b o f hl ha hb =
      let e₁ : links_at f.table i ≡ Ok (links_by (root l) (root r) o.old) = f.kept.below i (le_refl _)
      ∙ o.cell in
      let o₂ : Opened ranks key (stored f.table i (links_by (root l) (Some k) o.old)) lo hi l i (node a k b) =
      put_opened ranks key f.table lo hi l i (node a k b) _ o.old e₁ o.tie o.ge o.lt
      (keep_below ranks key t (suc (key i)) hi f.table lo (key i) l f.kept (omega arith) o.left)
      f.represents in
      let g = rotate_left_is _ lo hi l i a k b o₂ hl ha hb in
      record {
        table = g.table;
        top = g.top;
        at_top = g.at_top;
        represents = g.represents;
        is = rw (f.is, ← f.at_top, set_made f.table i (links_by (root l) (Some k) o.old) _ e₁) g.is;
        kept =
            kept_between ranks key t lo hi f.table i _ g.table (suc (key i)) hi o.ge o.lt (omega arith)
            (omega arith) f.kept g.kept;
      }

  turn_left : (s : Bool) (t : List ThreadRecord) (lo hi : ℕ) (l : Tree) (i : ℕ) (a : Tree) (j : ℕ) (b : Tree)
      (o : Opened ranks key t lo hi l i (node a j b))
      → ltb (tree.height b) (tree.height a) ≡ s → tree.height l < 200 → tree.height (node a j b) < 200
      → Turns ranks key t lo hi
      (choose s
      (on_turned (rotate_right t j) (out (Err damage))
      (λ top t₁. on_made (set_links t₁ i (links_by (root l) (Some top) o.old)) (out (Err damage))
      (λ t₂. rotate_left t₂ i)))
      (rotate_left t i))
      (rotation.rotate_left l i (choose s (rotation.rotate_right a j b) (node a j b)))
  unfolding choose rotation.rotate_right rotation.rotate_left
  turn_left false t lo hi l i a j b o e hl hr =
      rotate_left_is t lo hi l i a j b o (omega arith) (omega arith) (omega arith)
  turn_left true t lo hi l i leaf j b o e hl hr = absurd (omega (arith, ltb-true))
  turn_left true t lo hi l i (node c k d) j b o e hl hr =
      double_left_lem t lo hi l i (node (node c k d) j b) j c k (node d j b) o
      (rotate_right_is t (suc (key i)) hi c k d j b (opened ranks key t (suc (key i)) hi (node c k d) j b o.right)
      (omega arith) (omega arith) (omega arith))
      (omega arith) (omega arith) (omega arith)

  balance_left_is : (t : List ThreadRecord) (lo hi : ℕ) (a : Tree) (j : ℕ) (b : Tree) (i : ℕ) (r : Tree)
      (o : Opened ranks key t lo hi (node a j b) i r)
      → tree.height (node a j b) < 200 → tree.height r < 200
      → Turns ranks key t lo hi (balance_left t i (links_by (Some j) (root r) o.old))
      (rotation.rotate_right (outward_left (node a j b)) i r)
  unfolding balance_left on_link on_links on_height if_less outward_left
  balance_left_is t lo hi a j b i r o hl hr =
      rw (o.left.cell, height_is t lo (key j) a o.left.left, height_is t (suc (key j)) (key i) b o.left.right)
      (turn_right (ltb (tree.height a) (tree.height b)) t lo hi a j b i r o refl hl hr)

  balance_right_is : (t : List ThreadRecord) (lo hi : ℕ) (l : Tree) (i : ℕ) (a : Tree) (j : ℕ) (b : Tree)
      (o : Opened ranks key t lo hi l i (node a j b))
      → tree.height l < 200 → tree.height (node a j b) < 200
      → Turns ranks key t lo hi (balance_right t i (links_by (root l) (Some j) o.old))
      (rotation.rotate_left l i (outward_right (node a j b)))
  unfolding balance_right on_link on_links on_height if_less outward_right
  balance_right_is t lo hi l i a j b o hl hr =
      rw (
        o.right.cell,
        height_is t (suc (key j)) hi b o.right.right,
        height_is t (suc (key i)) (key j) a o.right.left,
      )
      (turn_left (ltb (tree.height b) (tree.height a)) t lo hi l i a j b o refl hl hr)

  balance_by_is : (s : Lean) (t : List ThreadRecord) (lo hi : ℕ) (l : Tree) (i : ℕ) (r : Tree)
      (o : Opened ranks key t lo hi l i r) → Leans s (tree.height l) (tree.height r)
      → tree.height l < 200 → tree.height r < 200
      → Turns ranks key t lo hi
      (on_lean s (balance_left t i (links_by (root l) (root r) o.old))
      (balance_right t i (links_by (root l) (root r) o.old))
      (on_made (update t i (links_by (root l) (root r) o.old)) (out (Err damage)) (λ t₁. out (Ok i) t₁)))
      (balance_by s l i r)
  unfolding on_lean balance_by on_made
  balance_by_is Left t lo hi leaf i r o k hl hr = absurd (omega arith)
  balance_by_is Left t lo hi (node a j b) i r o k hl hr = balance_left_is t lo hi a j b i r o hl hr
  balance_by_is Right t lo hi l i leaf o k hl hr = absurd (omega arith)
  balance_by_is Right t lo hi l i (node a j b) o k hl hr = balance_right_is t lo hi l i a j b o hl hr
  balance_by_is Even t lo hi l i r o k hl hr = record {
    table = stored t i (links_over l r);
    top = i;
    at_top = refl;
    is = rw (update_is t lo (key i) (suc (key i)) hi l i r _ o.old o.cell o.left o.right (omega arith));
    represents = put ranks key t lo hi l i r _ o.cell o.tie o.ge o.lt o.left o.right;
    kept = kept_store ranks key t lo hi i _ o.ge o.lt;
  }

  -- On a table that represents two trees under i, `balance` does what the balancing of trees does.
  pub balance_is : (t : List ThreadRecord) (lo hi : ℕ) (l : Tree) (i : ℕ) (r : Tree) → Opened ranks key t lo hi l i r
      → tree.height l < 200 → tree.height r < 200
      → Turns ranks key t lo hi (balance t i) (rotation.balance l i r)
  unfolding balance on_links on_height rotation.balance
  balance_is t lo hi l i r o hl hr =
      rw (o.cell, height_is t lo (key i) l o.left, height_is t (suc (key i)) hi r o.right)
      (balance_by_is (lean_of (tree.height l) (tree.height r)) t lo hi l i r o
      (leans (tree.height l) (tree.height r)) hl hr)
