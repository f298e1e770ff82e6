-- The twelve trees of a queue in one table, and what a call on one of them is to leave.
use Rattle.std.specs.Prelude.{◌≡◌, ◌≢◌, List, ℕ, ◌≤◌, ◌<◌, length, get_or, set, eqb, Option, Result, Ok}
use Rattle.refusal.specs.Cases.{choose}
use Rattle.avl.specs.Tree.{Tree, in_order, Balanced}
use Rattle.thread.specs.declared.ThreadRecord.{ThreadRecord}
use Rattle.rows.specs.Table.{Out, out, record_at, max_records}
use Rattle.sound_index.specs.Holds.{root, Holds, has, besides_links}
use Rattle.queue.specs.declared.Root.{Root}
use Rattle.queue.specs.Queue.{empty_root}
use Rattle.queue.specs.RunQueue.{tree_count}
use Rattle.refusal.specs.declared.Damaged.{Damaged}

-- The table holds twelve balanced trees under these roots. `place` gives the tree in which a thread stands, 12 or more
-- where it stands in none: each tree has exactly the threads placed in it, so that no two have one in common.
pub record Forest (roots : List Root) (t : List ThreadRecord) (place : ℕ → ℕ) : Type 0 where
  pub trees : ℕ → Tree
  pub small : length t ≤ max_records
  pub twelve : length roots ≡ tree_count
  pub rooted : (k : ℕ) → k < tree_count → (get_or roots k empty_root).root ≡ root (trees k)
  pub holds : (k : ℕ) → k < tree_count → Holds t (trees k)
  pub balanced : (k : ℕ) → k < tree_count → Balanced (trees k)
  pub exact : (j k : ℕ) → k < tree_count → has j (in_order (trees k)) ≡ eqb (place j) k

-- Number i placed at k, every other as it was.
unfoldable pub placed : {A : Type 0} → ℕ → A → (ℕ → A) → ℕ → A
placed i k place j = choose (eqb j i) k (place j)

-- An accepted call for thread i on tree k: a root is answered, with which the twelve trees then stand as `after` places
-- the threads. Of every record only the tree links changed, and no record changed at all that is neither i nor in a
-- tree.
pub record Replanted (roots : List Root) (t : List ThreadRecord) (k i : ℕ) (place after : ℕ → ℕ)
    (o : Out (Result (Option ℕ) Damaged)) : Type 0 where
  pub table : List ThreadRecord
  pub link : Option ℕ
  pub is : o ≡ out (Ok link) table
  pub forest : Forest (set roots k (record { root = link })) table after
  pub besides : besides_links table ≡ besides_links t
  pub others : (j : ℕ) → tree_count ≤ place j → j ≢ i → record_at table j ≡ record_at t j
