-- A sound tree by itself: "as left by that tree's accepted calls alone from an empty tree, its records otherwise
-- untouched".
use Rattle.std.specs.Prelude.{◌≡◌, List, ℕ, ◌≤◌, length, Option, None, Ok, true}
use Rattle.avl.specs.Tree.{Tree, Balanced}
use Rattle.thread.specs.declared.ThreadRecord.{ThreadRecord}
use Rattle.rows.specs.Table.{out, record_at, max_records}
use Rattle.ready_index.specs.Index.{contains, insert, remove}
use Rattle.sound_index.specs.Holds.{root, Holds}

-- A table of up to 4,096 records and a root: an empty tree, then accepted calls, and changes of any kind to records
-- that the tree does not contain.
pub data Sound : List ThreadRecord → Option ℕ → Type 0 where
  empty : (t : List ThreadRecord) → length t ≤ max_records → Sound t None
  inserted : (t s : List ThreadRecord) (l m : Option ℕ) (i : ℕ) → Sound t l → insert t l i ≡ out (Ok m) s
      → Sound s m
  removed : (t s : List ThreadRecord) (l m : Option ℕ) (i : ℕ) → Sound t l → remove t l i ≡ out (Ok m) s
      → Sound s m
  changed : (t s : List ThreadRecord) (l : Option ℕ) → Sound t l → length s ≤ max_records
      → ((j : ℕ) → contains t l j ≡ (Ok true) → record_at s j ≡ record_at t j) → Sound s l

-- The table holds a balanced tree under that root.
pub record Held (t : List ThreadRecord) (l : Option ℕ) : Type 0 where
  pub small : length t ≤ max_records
  pub tree : Tree
  pub is : root tree ≡ l
  pub holds : Holds t tree
  pub balanced : Balanced tree
