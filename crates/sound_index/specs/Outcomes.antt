-- What an accepted insertion and an accepted removal are, and what `first` is to name.
use Rattle.std.specs.Prelude.{◌≡◌, false, List, [], ◌∷◌, ℕ, Option, Some, None, Result, Ok}
use Rattle.avl.specs.Tree.{Tree, in_order, Balanced}
use Rattle.avl.specs.Operations.{Added}
use Rattle.thread.specs.declared.ThreadRecord.{ThreadRecord}
use Rattle.thread.specs.Membership.{empty_links}
use Rattle.rows.specs.Table.{Out, out, links_at, record_at}
use Rattle.sound_index.specs.Holds.{root, Holds, has, besides_links}
use Rattle.refusal.specs.declared.Damaged.{Damaged}

-- From t to s no record outside of the list changed at all, and of the others only the tree links.
pub record OnlyLinks (l : List ℕ) (t s : List ThreadRecord) : Type 0 where
  pub besides : besides_links s ≡ besides_links t
  pub records : (j : ℕ) → has j l ≡ false → record_at s j ≡ record_at t j

-- An accepted insertion of i into x: a root is answered, and the table then holds a balanced tree with exactly the
-- earlier threads and i, each at its place.
pub record Inserted (t : List ThreadRecord) (x : Tree) (i : ℕ) (o : Out (Result (Option ℕ) Damaged)) : Type 0 where
  pub table : List ThreadRecord
  pub tree : Tree
  pub is : o ≡ out (Ok (root tree)) table
  pub holds : Holds table tree
  pub balanced : Balanced tree
  pub added : Added (in_order x) i (in_order tree)
  pub only : OnlyLinks (i ∷ in_order x) t table

-- An accepted removal of i from x: a root is answered, the table then holds a balanced tree with exactly the other
-- threads in their order, and i's links are empty.
pub record Removed (t : List ThreadRecord) (x : Tree) (i : ℕ) (o : Out (Result (Option ℕ) Damaged)) : Type 0 where
  pub table : List ThreadRecord
  pub tree : Tree
  pub is : o ≡ out (Ok (root tree)) table
  pub holds : Holds table tree
  pub balanced : Balanced tree
  pub removed : Added (in_order tree) i (in_order x)
  pub gone : has i (in_order tree) ≡ false
  pub empty : links_at table i ≡ Ok empty_links
  pub only : OnlyLinks (in_order x) t table

-- The first of a list in order, which is the least.
abbrev pub least_of : List ℕ → Result (Option ℕ) Damaged
least_of [] = (Ok None)
least_of (i ∷ l) = Ok (Some i)
