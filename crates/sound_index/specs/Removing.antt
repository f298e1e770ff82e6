-- On a table that represents a tree, `remove` of a thread of it does what the removal of trees does, and empties the
-- thread's links.
use Rattle.std.specs.Prelude.{◌≡◌, ℕ, suc, ◌≤◌, ◌<◌, length, Option, Some, Result, Ok, Err}
use Rattle.refusal.specs.Answer.{damage}
use Rattle.std.proofs.Math.Path.{refl, ap}
use Rattle.std.proofs.Common.{sym, ◌∙◌, subst}
use mathlib.Core.List.{List, [], ◌++◌}
use native.Mathlib.Omega.{arith}
use Rattle.std.proofs.Math.Nat.{le_refl}
use Rattle.avl.specs.Tree.{Tree, leaf, node, height, in_order, Balanced}
use Rattle.avl.specs.Rotation as rotation
use Rattle.avl.specs.Path.{Frame, plug, before, after}
use Rattle.avl.specs.Operations.{successor_from, join, remove_at}
use Rattle.avl.proofs.InOrder.{rebuild_in_order}
use Rattle.avl.proofs.Rebuild.{BalancedAt, balanced_at}
use Rattle.avl.proofs.Removal.{successor_in, right_side, Joined, join_joins}
use Rattle.thread.specs.declared.Links.{Links}
use Rattle.thread.specs.declared.TreeKey.{TreeKey}
use Rattle.thread.specs.declared.ThreadRecord.{ThreadRecord}
use Rattle.thread.specs.Membership.{on_link, empty_links}
use Rattle.rows.specs.Table.{Out, out, links_at, set_links}
use Rattle.rows.specs.TableCases.{on_key, on_made}
use Rattle.rotations.specs.Cases.{on_turned}
use Rattle.ready_index.specs.Cases.{on_rooted}
use Rattle.rotations.specs.Balance.{balance}
use Rattle.ready_index.specs.Index.{on_search, search, on_successor, successor, replace, rebuild, remove}
use Rattle.sound_index.specs.Holds.{stored, root}
use Rattle.rows.specs.TableLaws.{links_got_within}
use Rattle.sound_index.specs.TableLaws.{set_made, stored_same, inside_links, besides_length}
use Rattle.sound_index.specs.Represents.{In, Compares, Read, links_by, Represents, Away, Frames, Roots, steps}
use Rattle.sound_index.specs.RepresentsLaws.{widen, kept_same, kept_store, kept_trans, keep_below, keep_frames}
use Rattle.sound_index.specs.RepresentsLaws.{frames_within, put_opened}
use Rattle.sound_index.specs.Rotations.{balance_is}
use Rattle.sound_index.specs.Rebuilding.{rebuild_is}
use Rattle.sound_index.specs.Descents.{in_bounds, Finds, find_is, successor_bounds, Succeeds, successor_is}
use Rattle.sound_index.specs.AwayLaws.{away_append, away_above, away_below, away_before, away_after, stored_away}
use Rattle.refusal.specs.declared.Damaged.{Damaged}

module _ (ranks key : ℕ → ℕ) where
  -- The end of a replacement: s, whose links are known, takes l and y for its sides.
  replace_end : (t : List ThreadRecord) (lo hi i : ℕ) (l : Tree) (s : ℕ) (c : Links) (y : Tree) (o :
      Out (Result (Option ℕ) Damaged))
      → links_at t s ≡ Ok c → ranks s ≡ key s → key i < key s → lo ≤ key i
      → Represents ranks key t lo (key i) l → (f : Roots ranks key t (suc (key s)) hi o y) → key s < hi → height l < 200
      → height y < 200
      → Roots ranks key t lo hi
      (on_rooted o (out (Err damage)) (λ sub t₁. on_made (set_links t₁ s (links_by (root l) sub 1))
      (out (Err damage))
      (λ t₂. on_turned (balance t₂ s) (out (Err damage)) (λ top t₃. out (Ok (Some top)) t₃))))
      (rotation.balance l s y)
  unfolding on_rooted on_made on_turned
  replace_end t lo hi i l s c y o e k h g p f q hl hy =
      let e₁ : links_at f.table s ≡ Ok c = f.kept.below s (le_refl _) ∙ e in
      let n = links_by (root l) (root y) 1 in
      let ge : lo ≤ key s = omega arith in
      let d = balance_is ranks key (stored f.table s n) lo hi l s y
      (put_opened ranks key f.table lo hi l s y c 1 e₁ k ge q
      (keep_below ranks key t (suc (key s)) hi f.table lo (key s) l f.kept (omega arith)
      (widen ranks key t lo (key i) lo (key s) l (le_refl _) (omega arith) p)) f.represents)
      hl hy in
      record {
        table = d.table;
        represents = d.represents;
        is = rw (f.is, set_made f.table s n c e₁, d.is, ← d.at_top);
        kept = kept_trans ranks key t (suc (key s)) hi f.table lo hi d.table f.kept
            (kept_trans ranks key f.table lo hi (stored f.table s n) lo hi d.table
            (kept_store ranks key f.table lo hi s n ge q) d.kept lo hi (le_refl _) (le_refl _) (le_refl _)
            (le_refl _))
            lo hi (omega arith) (le_refl _) (le_refl _) (le_refl _);
      }

  -- Both sides are there; s is the successor.
  replace_two : (t : List ThreadRecord) (lo hi : ℕ) (a : Tree) (x : ℕ) (b : Tree) (i : ℕ) (d : Tree) (j : ℕ) (e : Tree)
      (n : ℕ)
      → Represents ranks key t lo hi (node (node a x b) i (node d j e)) → Balanced (node (node a x b) i (node d j e))
      → height (node (node a x b) i (node d j e)) ≤ 40
      → (m : Succeeds ranks key t hi [] (node d j e) (successor_from [] d j e) (successor n t j []))
      → Roots ranks key t lo hi (replace t n (Some x) (Some j)) (join (node a x b) (node d j e))
  unfolding replace on_link on_successor
  replace_two t lo hi a x b i d j e n p v h m =
      let s = successor_from [] d j e in
      let u = successor_in [] d j e in
      let q = successor_bounds ranks key d t (suc (key i)) hi j e [] p.right in
      let g = right_side s (node d j e) u v.right in
      let w : height (plug s.path (node leaf s.thread s.right)) ≡ height (node d j e) = ap height u.whole in
      rw m.is (replace_end t lo hi i (node a x b) s.thread _ _ _ m.cell m.tie q.0 p.ge p.left
      (rebuild_is ranks key s.path t (suc (key s.thread)) m.hi (suc (key s.thread)) hi s.right 100
      m.frames m.subtree
      (omega (arith, m.short)) (le_refl _) (omega (arith, m.short)))
      q.1 (omega arith) (omega (arith, g.near)))

  -- What takes a removed thread's place.
  replace_is : (l r : Tree) (t : List ThreadRecord) (lo hi i n : ℕ) → Represents ranks key t lo hi (node l i r)
      → Balanced (node l i r) → height (node l i r) ≤ 40 → height (node l i r) ≤ suc n
      → Roots ranks key t lo hi (replace t n (root l) (root r)) (join l r)
  unfolding replace on_link
  replace_is leaf r t lo hi i n p v h k = record {
    table = t;
    is = refl;
    represents = widen ranks key t (suc (key i)) hi lo hi r (omega arith) (le_refl _) p.right;
    kept = kept_same ranks key t lo hi;
  }
  replace_is (node a x b) leaf t lo hi i n p v h k = record {
    table = t;
    is = refl;
    represents = widen ranks key t lo (key i) lo hi (node a x b) (le_refl _) (omega arith) p.left;
    kept = kept_same ranks key t lo hi;
  }
  replace_is (node a x b) (node d j e) t lo hi i n p v h k =
      replace_two t lo hi a x b i d j e n p v h
      (successor_is ranks key d j e n t (suc (key i)) hi hi [] p.right (record { low = le_refl _; high = le_refl _ })
      (omega arith) (omega arith))

  -- The thread's own links, emptied last.
  emptied : (t : List ThreadRecord) (lo hi i : ℕ) (c : Links) (y : Tree) (o : Out (Result (Option ℕ) Damaged))
      (f : Roots ranks key t lo hi o y) → links_at t i ≡ Ok c → lo ≤ key i → key i < hi
      → Away ranks key (key i) (in_order y)
      → (b : Roots ranks key t lo hi
      (on_rooted o (out (Err damage))
      (λ top t₁. on_made (set_links t₁ i empty_links) (out (Err damage)) (λ t₂. out (Ok top) t₂))) y)
      × (links_at b.table i ≡ Ok empty_links)
  unfolding on_rooted on_made
  emptied t lo hi i c y o f e ge lt w =
      let g = inside_links f.table i
      (omega (arith, links_got_within t i e, besides_length t f.table f.kept.besides)) in (
        record {
          table = stored f.table i empty_links;
          is = rw (f.is, set_made f.table i empty_links g.0 g.1);
          represents = stored_away ranks key (key i) f.table lo hi i empty_links y refl w f.represents;
          kept = kept_trans ranks key t lo hi f.table lo hi (stored f.table i empty_links) f.kept
              (kept_store ranks key f.table lo hi i empty_links ge lt) lo hi (le_refl _) (le_refl _) (le_refl _)
              (le_refl _);
        },
        stored_same f.table i empty_links g.0 g.1,
      )

  -- The path rebuilt over what took the thread's place.
  rebuilt_above : (t : List ThreadRecord) (LO HI lo hi i : ℕ) (l r : Tree) (z : List Frame) (o :
      Out (Result (Option ℕ) Damaged))
      → Frames ranks key t lo hi LO HI z → Roots ranks key t lo hi o (join l r)
      → Joined l i r (join l r) → height (node l i r) ≤ 40 → length z ≤ 40
      → Roots ranks key t LO HI (on_rooted o (out (Err damage)) (λ sub t₁. rebuild (steps z) t₁ sub))
      (remove_at z l r)
  unfolding on_rooted
  rebuilt_above t LO HI lo hi i l r z o p B J h k =
      let m = frames_within ranks key t lo hi LO HI z p in
      let f = rebuild_is ranks key z B.table lo hi LO HI (join l r) 100
      (keep_frames ranks key t lo hi B.table lo hi LO HI z B.kept (le_refl _) (le_refl _) p) B.represents
      (omega (arith, J.near)) (le_refl _) (omega arith) in
      record {
        table = f.table;
        represents = f.represents;
        is = rw B.is f.is;
        kept =
            kept_trans ranks key t lo hi B.table LO HI f.table B.kept f.kept LO HI m.0 (le_refl _) m.1
            (le_refl _);
      }

  away_removed : (t : List ThreadRecord) (LO HI lo hi i : ℕ) (l r : Tree) (z : List Frame)
      → Frames ranks key t lo hi LO HI z → Represents ranks key t lo hi (node l i r)
      → Joined l i r (join l r) → Away ranks key (key i) (in_order (remove_at z l r))
  away_removed t LO HI lo hi i l r z p q J =
      rw (rebuild_in_order z (join l r), J.in_order_lem)
      (away_append ranks key (key i) (before z ++ (in_order l ++ in_order r)) (after z)
      (away_append ranks key (key i) (before z) (in_order l ++ in_order r)
      (away_before ranks key (key i) t lo hi LO HI z q.ge p)
      (away_append ranks key (key i) (in_order l) (in_order r)
      (away_below ranks key (key i) t lo (key i) l (le_refl _) q.left)
      (away_above ranks key (key i) t (suc (key i)) hi r (le_refl _) q.right)))
      (away_after ranks key (key i) t lo hi LO HI z q.lt p))

  -- The call answered the root of x with the node of i taken out, and left that thread's links empty.
  pub record Removes (t : List ThreadRecord) (LO HI : ℕ) (x : Tree) (i : ℕ) (o : Out (Result (Option ℕ) Damaged)) :
      Type 0 where
    pub path : List Frame
    pub left : Tree
    pub right : Tree
    pub whole : plug path (node left i right) ≡ x
    pub subtree : Balanced (node left i right)
    pub roots : Roots ranks key t LO HI o (remove_at path left right)
    pub empty : links_at roots.table i ≡ Ok empty_links
    pub gone : Away ranks key (key i) (in_order (remove_at path left right))

  -- Two calls one after the other, grouped either way.
  then_then : (o : Out (Result (Option ℕ) Damaged)) (f g : Option ℕ → List ThreadRecord
      → Out (Result (Option ℕ) Damaged))
      → on_rooted (on_rooted o (out (Err damage)) f) (out (Err damage)) g
      ≡ on_rooted o (out (Err damage)) (λ sub t. on_rooted (f sub t) (out (Err damage)) g)
  unfolding on_rooted
  then_then (out (Ok l) t) f g = refl
  then_then (out (Err _) t) f g = refl

  remove_along : (t : List ThreadRecord) (LO HI : ℕ) (x : Tree) (i : ℕ) (a : TreeKey) → Read t i a → height x ≤ 40
      → LO ≤ key i → key i < HI
      → (F : Finds ranks key t LO HI i [] x (search 40 t a i (root x) []))
      → BalancedAt F.path (node F.left i F.right)
      → Joined F.left i F.right (join F.left F.right)
      → Roots ranks key t F.lo F.hi (replace t F.rest (root F.left) (root F.right))
      (join F.left F.right)
      → Removes t LO HI x i (remove t (root x) i)
  unfolding remove on_key on_search
  remove_along t LO HI x i a k h ge lt F w J R =
      let s = F.subtree in
      let gone = away_removed t LO HI F.lo F.hi i F.left F.right F.path F.frames s J in
      let A = rebuilt_above t LO HI F.lo F.hi i F.left F.right F.path _ F.frames R J
      (omega (arith, F.short)) (omega (arith, F.short)) in
      let B = emptied t LO HI i _ (remove_at F.path F.left F.right) _ A s.cell ge lt gone in
      record {
        path = F.path;
        left = F.left;
        right = F.right;
        whole = F.whole;
        subtree = w.subtree;
        roots =
            record {
              table = B.0.table;
              is = rw (k.key, F.is) (sym (then_then _ _ _) ∙ B.0.is);
              represents = B.0.represents;
              kept = B.0.kept;
            };
        empty = B.1;
        gone = gone;
      }

  pub remove_is : (t : List ThreadRecord) (LO HI : ℕ) (x : Tree) (i : ℕ) (a : TreeKey) → Compares t ranks → Read t i a
      → In i x → Represents ranks key t LO HI x → Balanced x → height x ≤ 40
      → Removes t LO HI x i (remove t (root x) i)
  remove_is t LO HI x i a c k m p v h =
      let F = find_is ranks key m 40 t LO HI LO HI a [] c k p (record { low = le_refl _; high = le_refl _ }) h
      (omega arith) in
      let b = in_bounds ranks key t LO HI m p in
      let w = balanced_at F.path (node F.left i F.right) (subst Balanced (sym F.whole) v) in
      remove_along t LO HI x i a k h b.0 b.1 F w (join_joins F.left i F.right w.subtree)
      (replace_is F.left F.right t F.lo F.hi i F.rest F.subtree w.subtree (omega (arith, F.short))
      F.enough)
