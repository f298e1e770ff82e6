-- What it means that a table holds a tree.
use Rattle.std.specs.Prelude.{◌≡◌, List, [], ◌∷◌, map, Bool, false, ◌||◌, ℕ, suc, max, eqb, Option, Some, None, Ok}
use Rattle.std.specs.declared.cmp.Ordering.TheVariants.{Less}
use Rattle.avl.specs.Tree.{Tree, leaf, node, in_order, height}
use Rattle.thread.specs.declared.Links.{Links}
use Rattle.thread.specs.declared.TreeKey.{TreeKey}
use Rattle.thread.specs.declared.ThreadRecord.{ThreadRecord}
use Rattle.thread.specs.Membership.{empty_links}
use Rattle.thread.specs.TreeKey.{compare_tree_keys}
use Rattle.thread.specs.Records.{with_links}
use Rattle.rows.specs.Table.{changed, links_at, key_at}

-- The table with these links at that record.
abbrev pub stored : List ThreadRecord → ℕ → Links → List ThreadRecord
stored t i l = changed t i (with_links l)

-- The link to a tree's top.
abbrev pub root : Tree → Option ℕ
root leaf = None
root (node l i r) = Some i

-- The links of a node over two subtrees.
abbrev pub links_over : Tree → Tree → Links
links_over l r = record { left = root l; right = root r; height = suc (max (height l) (height r)) }

-- Every record of the tree has the links and the height that the tree gives it.
abbrev pub Linked : List ThreadRecord → Tree → Type 0
Linked t leaf = Unit {0}
Linked t (node l i r) =
    record { links : links_at t i ≡ Ok (links_over l r); left : Linked t l; right : Linked t r }

-- Two threads of the table, the first with the lesser tree key.
pub record Precedes (t : List ThreadRecord) (i j : ℕ) : Type 0 where
  pub key : TreeKey
  pub other : TreeKey
  pub has_key : key_at t i ≡ Ok key
  pub has_other : key_at t j ≡ Ok other
  pub less : compare_tree_keys key other ≡ Less

-- A thread before all of a list.
abbrev pub PrecedesAll : List ThreadRecord → ℕ → List ℕ → Type 0
PrecedesAll t i [] = Unit {0}
PrecedesAll t i (j ∷ l) = record { here : Precedes t i j; rest : PrecedesAll t i l }

-- Each thread's key is less than the keys of all that follow it.
abbrev pub Rising : List ThreadRecord → List ℕ → Type 0
Rising t [] = Unit {0}
Rising t (i ∷ l) = record { first : PrecedesAll t i l; rest : Rising t l }

-- The table holds the tree: links and heights are the tree's, and its threads stand in the strict order of their keys.
-- (SPECIFICATION 12.4).
pub record Holds (t : List ThreadRecord) (x : Tree) : Type 0 where
  pub linked : Linked t x
  pub rising : Rising t (in_order x)

-- Whether a list has a thread.
abbrev pub has : ℕ → List ℕ → Bool
has j [] = false
has j (i ∷ l) = eqb j i || has j l

-- The table but for the tree links: all else of every record.
unfoldable pub besides_links : List ThreadRecord → List ThreadRecord
besides_links t = map (with_links empty_links) t
