-- On a table that represents a tree along a path, `rebuild` does what the rebuilding of trees does.
use Rattle.std.specs.Prelude.{◌≡◌, refl, List, [], ◌∷◌, ℕ, suc, ◌+◌, ◌≤◌, ◌<◌, length, Some, Ok, Err}
use Rattle.refusal.specs.Answer.{damage}
use Rattle.std.proofs.Common.{arith, le_refl}
use Rattle.refusal.specs.Cases.{choose}
use Rattle.avl.specs.Tree.{Tree}
use Rattle.avl.specs.Tree as tree
use Rattle.avl.specs.Rotation as rotation
use Rattle.avl.specs.Path.{Frame, left_of, right_of}
use Rattle.avl.specs.Path as path
use Rattle.avl.proofs.Balance.{balance_height}
use Rattle.thread.specs.declared.Links.{Links}
use Rattle.thread.specs.declared.ThreadRecord.{ThreadRecord}
use Rattle.rows.specs.Table.{out, links_at, set_links}
use Rattle.rows.specs.TableCases.{on_links, on_made}
use Rattle.rotations.specs.Cases.{on_turned}
use Rattle.rotations.specs.Balance.{balance}
use Rattle.ready_index.specs.Index.{hung, rebuild_step, rebuild}
use Rattle.sound_index.specs.Holds.{stored, root}
use Rattle.sound_index.specs.TableLaws.{set_made}
use Rattle.sound_index.specs.Represents.{links_by, Represents, Frames, Turns, Roots, steps}
use Rattle.sound_index.specs.RepresentsLaws.{widen, kept_same, kept_store, kept_trans, keep_frames}
use Rattle.sound_index.specs.RepresentsLaws.{frames_within, put_opened}
use Rattle.sound_index.specs.Rotations.{balance_is}

module _ (ranks key : ℕ → ℕ) where
  -- What `rebuild` does along z; n bounds the heights.
  abbrev pub Rebuilds : List Frame → Type 0
  Rebuilds z =
      (t : List ThreadRecord) (lo hi LO HI : ℕ) (x : Tree) (n : ℕ) → Frames ranks key t lo hi LO HI z
      → Represents ranks key t lo hi x
      → tree.height x ≤ n → 100 ≤ n → n + length z < 200
      → Roots ranks key t LO HI (rebuild (steps z) t (root x)) (path.rebuild z x)

  -- One step up, and the rest of the path.
  step_up : (t : List ThreadRecord) (lo hi LO HI i : ℕ) (c h : Links) (z : List Frame) (l r : Tree) (n : ℕ)
      → links_at t i ≡ Ok h → lo ≤ key i → key i < hi → Frames ranks key t lo hi LO HI z
      → Turns ranks key (stored t i c) lo hi (balance (stored t i c) i) (rotation.balance l i r)
      → tree.height l ≤ n → tree.height r ≤ n → 100 ≤ n → n + suc (length z) < 200 → Rebuilds z
      → Roots ranks key t LO HI
      (on_turned (on_made (set_links t i c) (out (Err damage)) (λ t₁. balance t₁ i)) (out (Err damage))
      (λ top t₁. rebuild (steps z) t₁ (Some top)))
      (path.rebuild z (rotation.balance l i r))
  unfolding on_turned on_made
  step_up t lo hi LO HI i c h z l r n e a b p d hl hr hn hz ih =
      let m = frames_within ranks key t lo hi LO HI z p in
      let k = kept_trans ranks key t lo hi (stored t i c) lo hi d.table (kept_store ranks key t lo hi i c a b)
      d.kept lo hi (le_refl _) (le_refl _) (le_refl _) (le_refl _) in
      let f = ih d.table lo hi LO HI (rotation.balance l i r) (suc n)
      (keep_frames ranks key t lo hi d.table lo hi LO HI z k (le_refl _) (le_refl _) p) d.represents
      (omega (arith, balance_height l i r)) (omega arith) (omega arith) in
      record {
        table = f.table;
        represents = f.represents;
        is = rw (set_made t i c h e, d.is, ← d.at_top) f.is;
        kept =
            kept_trans ranks key t lo hi d.table LO HI f.table k f.kept LO HI m.0 (le_refl _) m.1
            (le_refl _);
      }

  rebuild_end : Rebuilds []
  unfolding rebuild
  rebuild_end t lo hi LO HI x n p q hx hn hz = record {
    table = t;
    is = refl;
    represents = widen ranks key t lo hi LO HI x p.low p.high q;
    kept = kept_same ranks key t LO HI;
  }

  rebuild_left : (i : ℕ) (r : Tree) (z : List Frame) → Rebuilds z → Rebuilds (left_of i r ∷ z)
  unfolding rebuild rebuild_step on_links hung choose
  rebuild_left i r z ih t lo hi LO HI x n p q hx hn hz =
      rw p.cell (step_up t lo p.end LO HI i _ _ z x r n p.cell p.ge p.lt p.up
      (balance_is ranks key (stored t i (links_by (root x) (root r) p.old)) lo p.end x i r
      (put_opened ranks key t lo p.end x i r _ p.old p.cell p.tie p.ge p.lt
      (widen ranks key t lo hi lo (key i) x (le_refl _) p.hole q) p.side)
      (omega arith) (omega arith))
      hx (omega arith) hn (omega arith) ih)

  rebuild_right : (l : Tree) (i : ℕ) (z : List Frame) → Rebuilds z → Rebuilds (right_of l i ∷ z)
  unfolding rebuild rebuild_step on_links hung choose
  rebuild_right l i z ih t lo hi LO HI x n p q hx hn hz =
      rw p.cell (step_up t p.end hi LO HI i _ _ z l x n p.cell p.ge p.lt p.up
      (balance_is ranks key (stored t i (links_by (root l) (root x) p.old)) p.end hi l i x
      (put_opened ranks key t p.end hi l i x _ p.old p.cell p.tie p.ge p.lt p.side
      (widen ranks key t lo hi (suc (key i)) hi x p.hole (le_refl _) q))
      (omega arith) (omega arith))
      (omega arith) hx hn (omega arith) ih)

  -- Along every path.
  pub rebuild_is : (z : List Frame) → Rebuilds z
  rebuild_is [] = rebuild_end
  rebuild_is (left_of i r ∷ z) = rebuild_left i r z (rebuild_is z)
  rebuild_is (right_of l i ∷ z) = rebuild_right l i z (rebuild_is z)
