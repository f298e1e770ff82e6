-- What the proofs of the operations go by: a table represents a tree whose threads have ranks in an interval, so that
-- what lies outside of the interval is not of the tree.
use Rattle.std.specs.Prelude.{◌≡◌, ◌≢◌, List, [], ◌∷◌, ℕ, suc, ◌≤◌, ◌<◌, length, true, false, Option, Some, Result, Ok}
use Rattle.order.specs.Order.{compare_numbers}
use Rattle.avl.specs.Tree.{Tree, leaf, node, height}
use Rattle.avl.specs.Path.{Frame, left_of, right_of}
use Rattle.thread.specs.declared.Links.{Links}
use Rattle.thread.specs.declared.TreeKey.{TreeKey}
use Rattle.thread.specs.declared.ThreadRecord.{ThreadRecord}
use Rattle.thread.specs.TreeKey.{compare_tree_keys}
use Rattle.ready_index.specs.declared.Step.{Step}
use Rattle.rows.specs.Table.{Out, out, links_at, key_at}
use Rattle.sound_index.specs.Holds.{root, links_over, besides_links}
use Rattle.refusal.specs.declared.Damaged.{Damaged}

-- Links by their parts.
abbrev pub links_by : Option ℕ → Option ℕ → ℕ → Links
links_by l r h = record { left = l; right = r; height = h }

-- A thread of the tree.
pub data In (i : ℕ) : Tree → Type 0 where
  here : {l r : Tree} → In i (node l i r)
  in_left : {l r : Tree} {j : ℕ} → In i l → In i (node l j r)
  in_right : {l r : Tree} {j : ℕ} → In i r → In i (node l j r)

-- Keys of the table compare as these numbers.
abbrev pub Compares : List ThreadRecord → (ℕ → ℕ) → Type 0
Compares t ranks =
    (i j : ℕ) (a b : TreeKey) → i < length t → j < length t → key_at t i ≡ Ok a → key_at t j ≡ Ok b
    → compare_tree_keys a b ≡ compare_numbers (ranks i) (ranks j)

-- A key that was read, of a thread of the table.
pub record Read (t : List ThreadRecord) (i : ℕ) (a : TreeKey) : Type 0 where
  pub inside : i < length t
  pub key : key_at t i ≡ Ok a

-- Keys in strict order, from lo to below hi.
abbrev pub Up : (ℕ → ℕ) → ℕ → ℕ → List ℕ → Type 0
Up key lo hi [] = Unit {0}
Up key lo hi (j ∷ l) = record { ge : lo ≤ key j; lt : key j < hi; rest : Up key (suc (key j)) hi l }

-- Every thread of the list is in a table of n records.
abbrev pub Below : ℕ → List ℕ → Type 0
Below n [] = Unit {0}
Below n (j ∷ l) = record { here : j < n; rest : Below n l }

-- `ranks` are the ranks of all threads in the table, `key` is free outside of the tree and the same in it.
module _ (ranks key : ℕ → ℕ) where
  -- The tree's threads have keys from lo to below hi, in order, and the table has their links and heights.
  abbrev pub Represents : List ThreadRecord → ℕ → ℕ → Tree → Type 0
  Represents t lo hi leaf = Unit {0}
  Represents t lo hi (node l i r) = record {
    ge : lo ≤ key i;
    lt : key i < hi;
    tie : ranks i ≡ key i;
    cell : links_at t i ≡ Ok (links_over l r);
    left : Represents t lo (key i) l;
    right : Represents t (suc (key i)) hi r;
  }

  -- The same, where the stored height of the top may be anything.
  pub record Opened (t : List ThreadRecord) (lo hi : ℕ) (l : Tree) (i : ℕ) (r : Tree) : Type 0 where
    pub old : ℕ
    pub ge : lo ≤ key i
    pub lt : key i < hi
    pub tie : ranks i ≡ key i
    pub cell : links_at t i ≡ Ok (links_by (root l) (root r) old)
    pub left : Represents t lo (key i) l
    pub right : Represents t (suc (key i)) hi r

  -- k is no key of the tree.
  abbrev pub Fresh : ℕ → Tree → Type 0
  Fresh k leaf = Unit {0}
  Fresh k (node l i r) = record { here : k ≢ key i; left : Fresh k l; right : Fresh k r }

  -- No thread of the list has the key k.
  abbrev pub Away : ℕ → List ℕ → Type 0
  Away k [] = Unit {0}
  Away k (j ∷ l) = record { here : key j ≢ k; rest : Away k l }

  -- From t to s only the links of threads with keys from lo to below hi changed.
  pub record Kept (t : List ThreadRecord) (lo hi : ℕ) (s : List ThreadRecord) : Type 0 where
    pub below : (j : ℕ) → key j < lo → links_at s j ≡ links_at t j
    pub above : (j : ℕ) → hi ≤ key j → links_at s j ≡ links_at t j
    pub besides : besides_links s ≡ besides_links t

  -- The frames of a path to a place for keys from lo to below hi, of a tree with keys from LO to below HI.
  -- The link to the place, and the heights of the path's own nodes, may be anything.
  abbrev pub Frames : List ThreadRecord → ℕ → ℕ → ℕ → ℕ → List Frame → Type 0
  Frames t lo hi LO HI [] = record { low : LO ≤ lo; high : hi ≤ HI }
  Frames t lo hi LO HI (left_of i r ∷ z) = record {
    end : ℕ;
    link : Option ℕ;
    old : ℕ;
    hole : hi ≤ key i;
    ge : lo ≤ key i;
    lt : key i < end;
    small : height r < 100;
    tie : ranks i ≡ key i;
    cell : links_at t i ≡ Ok (links_by link (root r) old);
    side : Represents t (suc (key i)) end r;
    up : Frames t lo end LO HI z;
  }
  Frames t lo hi LO HI (right_of l i ∷ z) = record {
    end : ℕ;
    link : Option ℕ;
    old : ℕ;
    hole : key i < lo;
    ge : end ≤ key i;
    lt : key i < hi;
    small : height l < 100;
    tie : ranks i ≡ key i;
    cell : links_at t i ≡ Ok (links_by (root l) link old);
    side : Represents t end (key i) l;
    up : Frames t end hi LO HI z;
  }

  -- A call answered the top of the tree x, which its table represents, and stored nothing outside.
  pub record Turns (t : List ThreadRecord) (lo hi : ℕ) (o : Out (Result ℕ Damaged)) (x : Tree) : Type 0 where
    pub table : List ThreadRecord
    pub top : ℕ
    pub is : o ≡ out (Ok top) table
    pub at_top : root x ≡ Some top
    pub represents : Represents table lo hi x
    pub kept : Kept t lo hi table

  -- The same of an answer that may be an empty tree.
  pub record Roots (t : List ThreadRecord) (lo hi : ℕ) (o : Out (Result (Option ℕ) Damaged)) (x : Tree) : Type 0 where
    pub table : List ThreadRecord
    pub is : o ≡ out (Ok (root x)) table
    pub represents : Represents table lo hi x
    pub kept : Kept t lo hi table

-- The steps of a path.
abbrev pub steps : List Frame → List Step
steps [] = []
steps (left_of i r ∷ z) = record { id = i; right = false } ∷ steps z
steps (right_of l i ∷ z) = record { id = i; right = true } ∷ steps z
