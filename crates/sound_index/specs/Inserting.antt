-- On a table that represents a tree, `insert` of a thread whose key is not there does what the insertion of trees does.
use Rattle.std.specs.Prelude.{◌≡◌, List, [], ℕ, ◌≤◌, ◌<◌, Option, Result}
use Rattle.std.proofs.Common.{arith, le_refl}
use Rattle.avl.specs.Tree.{Tree, leaf, node, height}
use Rattle.avl.specs.Path.{Frame, plug}
use Rattle.avl.specs.Operations.{insert_at}
use Rattle.thread.specs.declared.TreeKey.{TreeKey}
use Rattle.thread.specs.declared.ThreadRecord.{ThreadRecord}
use Rattle.rows.specs.Table.{Out}
use Rattle.rows.specs.TableCases.{on_key, on_made}
use Rattle.ready_index.specs.Index.{on_walk, walk, insert}
use Rattle.sound_index.specs.Holds.{stored, root, links_over}
use Rattle.sound_index.specs.TableLaws.{set_made, inside_links}
use Rattle.sound_index.specs.Represents.{Compares, Read, Represents, Fresh, Roots}
use Rattle.sound_index.specs.RepresentsLaws.{kept_store, kept_trans, keep_frames, frames_within, put}
use Rattle.sound_index.specs.Rebuilding.{rebuild_is}
use Rattle.sound_index.specs.Descents.{Walks, walk_is}
use Rattle.refusal.specs.declared.Damaged.{Damaged}

module _ (ranks key : ℕ → ℕ) where
  -- The call answered the root of x with i put at the end of a path to a leaf.
  pub record Inserts (t : List ThreadRecord) (LO HI : ℕ) (x : Tree) (i : ℕ) (o : Out (Result (Option ℕ) Damaged)) :
      Type 0 where
    pub path : List Frame
    pub whole : plug path leaf ≡ x
    pub roots : Roots ranks key t LO HI o (insert_at path i)

  insert_along : (t : List ThreadRecord) (LO HI : ℕ) (x : Tree) (i : ℕ) (a : TreeKey) → Read t i a → height x ≤ 40
      → ranks i ≡ key i
      → Walks ranks key t LO HI (ranks i) [] x (walk 40 t a (root x) []) → Inserts t LO HI x i (insert t (root x) i)
  unfolding insert on_key on_walk on_made
  insert_along t LO HI x i a k s tie d =
      let e = inside_links t i k.inside in
      let c = links_over leaf leaf in
      let ge : d.lo ≤ key i = omega (arith, d.ge) in
      let lt : key i < d.hi = omega (arith, d.lt) in
      let kept = kept_store ranks key t d.lo d.hi i c ge lt in
      let m = frames_within ranks key t d.lo d.hi LO HI d.path d.frames in
      let f = rebuild_is ranks key d.path (stored t i c) d.lo d.hi LO HI (node leaf i leaf) 100
      (keep_frames ranks key t d.lo d.hi (stored t i c) d.lo d.hi LO HI d.path kept (le_refl _)
      (le_refl _) d.frames)
      (put ranks key t d.lo d.hi leaf i leaf _ e.1 tie ge lt tt tt) (omega arith) (omega arith)
      (omega (arith, d.short)) in
      record {
        path = d.path;
        whole = d.whole;
        roots = record {
          table = f.table;
          represents = f.represents;
          is = rw (k.key, d.is, set_made t i c _ e.1) f.is;
          kept =
              kept_trans ranks key t d.lo d.hi (stored t i c) LO HI f.table kept f.kept LO HI m.0
              (le_refl _) m.1 (le_refl _);
        };
      }

  pub insert_is : (t : List ThreadRecord) (LO HI : ℕ) (x : Tree) (i : ℕ) (a : TreeKey) → Compares t ranks → Read t i a
      → Represents ranks key t LO HI x → height x ≤ 40
      → ranks i ≡ key i → LO ≤ key i → key i < HI → Fresh ranks key (ranks i) x
      → Inserts t LO HI x i (insert t (root x) i)
  insert_is t LO HI x i a c k p s tie ge lt n =
      insert_along t LO HI x i a k s tie
      (walk_is ranks key x 40 t LO HI LO HI i a [] c k p (record { low = le_refl _; high = le_refl _ }) n s
      (omega arith) (omega arith) (omega arith))
