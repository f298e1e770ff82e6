-- The ready index over the table: first, contains, insert and remove. A refusal keeps the stores that were made; the
-- root is then the caller's old one.
use Rattle.std.specs.Prelude.{List, [], ◌∷◌, true, false, ℕ, zero, suc, Option, Some, None, Result, Ok, Err, Bool}
use Rattle.refusal.specs.Answer.{damage}
use Rattle.refusal.specs.Cases.{choose, if_equal}
use Rattle.order.specs.Order.{on_ordering}
use Rattle.thread.specs.declared.Links.{Links}
use Rattle.thread.specs.declared.TreeKey.{TreeKey}
use Rattle.thread.specs.declared.ThreadRecord.{ThreadRecord}
use Rattle.thread.specs.Membership.{on_link, empty_links}
use Rattle.thread.specs.TreeKey.{compare_tree_keys}
use Rattle.ready_index.specs.declared.Step.{Step}
use Rattle.ready_index.specs.declared.Way.{Way}
use Rattle.ready_index.specs.declared.Way.TheVariants as way
use Rattle.ready_index.specs.declared.Sought.{Sought}
use Rattle.ready_index.specs.declared.Sought.TheVariants as sought
use Rattle.rows.specs.Table.{Out, out, links_at, key_at, set_links}
use Rattle.rows.specs.TableCases.{on_links, on_key, on_made}
use Rattle.rotations.specs.Cases.{on_turned}
use Rattle.ready_index.specs.Cases.{on_rooted, on_way, on_sought}
use Rattle.rotations.specs.Balance.{balance}
use Rattle.refusal.specs.declared.Damaged.{Damaged}

-- The entries that a path may have (`MAX_PATH`).
abbrev pub max_path : ℕ
max_path = 40

-- Down the left links, in so many steps at most.
unfoldable pub descend : ℕ → List ThreadRecord → ℕ → Result (Option ℕ) Damaged
descend zero t i = (Err damage)
descend (suc n) t i = on_links (links_at t i) (Err damage) (λ l. on_link l.left (Ok (Some i)) (descend n t))

-- The least thread of the tree under a root (`Tree::first`) (SPECIFICATION 6.1).
unfoldable pub first : List ThreadRecord → Option ℕ → Result (Option ℕ) Damaged
first t root = on_link root (Ok None) (λ i. descend max_path t i)

-- Where a key goes on from a node: the node's key is read and compared, then its links are read.
unfoldable pub way_at : List ThreadRecord → TreeKey → ℕ → Way
way_at t key i =
    on_key (key_at t i) way.Damaged
    (λ k. on_ordering (compare_tree_keys key k)
    (on_links (links_at t i) way.Damaged (λ l. way.Left l.left))
    way.Equal
    (on_links (links_at t i) way.Damaged (λ l. way.Right l.right)))

-- The search for a key from a link, in so many nodes at most.
unfoldable pub look_for : ℕ → List ThreadRecord → TreeKey → ℕ → Option ℕ → Result Bool Damaged
look_for zero t key id at = (Err damage)
look_for (suc n) t key id at =
    on_link at (Ok false)
    (λ i. on_way (way_at t key i) (Err damage) (if_equal i id (Ok true) (Ok false))
    (λ l. look_for n t key id l)
    (λ l. look_for n t key id l))

-- Whether the tree under a root holds a thread (`Tree::contains`) (SPECIFICATION 6.1).
unfoldable pub contains : List ThreadRecord → Option ℕ → ℕ → Result Bool Damaged
contains t root id = on_key (key_at t id) (Err damage) (λ key. look_for max_path t key id root)

-- A path's steps, the last first, where the way down ended; or none, where it was refused.
pub data Walk : Type 0 where
  bottom : List Step → Walk
  lost : Walk

-- Refused first.
unfoldable pub on_walk : {A : Type 0} → Walk → A → (List Step → A) → A
on_walk (bottom s) a f = f s
on_walk lost a f = a

-- The way down from a link to where a key is to stand, with room for so many steps more.
unfoldable pub walk : ℕ → List ThreadRecord → TreeKey → Option ℕ → List Step → Walk
walk zero t key at s = on_link at (bottom s) (λ i. lost)
walk (suc room) t key at s =
    on_link at (bottom s)
    (λ i. on_way (way_at t key i) lost lost
    (λ l. walk room t key l (record { id = i; right = false } ∷ s))
    (λ l. walk room t key l (record { id = i; right = true } ∷ s)))

-- The links of a node with a new subtree where the step led.
unfoldable pub hung : Step → Links → Option ℕ → Links
hung s l sub =
    choose s.right
    (record { left = l.left; right = sub; height = l.height })
    (record { left = sub; right = l.right; height = l.height })

-- One step up: the new subtree is hung under the node, which is then balanced.
unfoldable pub rebuild_step : List ThreadRecord → Step → Option ℕ → Out (Result ℕ Damaged)
rebuild_step t s sub =
    on_links (links_at t s.id) (out (Err damage) t)
    (λ l. on_made (set_links t s.id (hung s l sub)) (out (Err damage)) (λ t₁. balance t₁ s.id))

-- A replaced subtree reconnected along a path (`rebuild`).
unfoldable pub rebuild : List Step → List ThreadRecord → Option ℕ → Out (Result (Option ℕ) Damaged)
rebuild [] t sub = out (Ok sub) t
rebuild (s ∷ rest) t sub =
    on_turned (rebuild_step t s sub) (out (Err damage)) (λ top t₁. rebuild rest t₁ (Some top))

-- A thread with this key put into the tree under a root, by a path with so much room (`insert_at`): equal keys and a
-- path too long are refused before the first store.
abbrev pub insert_at : List ThreadRecord → ℕ → TreeKey → Option ℕ → ℕ → Out (Result (Option ℕ) Damaged)
insert_at t room key root id =
    on_walk (walk room t key root []) (out (Err damage) t)
    (λ steps. on_made (set_links t id empty_links) (out (Err damage))
    (λ t₁. rebuild steps t₁ (Some id)))

-- A thread put into the tree under a root (`Tree::insert`) (SPECIFICATION 6.2).
unfoldable pub insert : List ThreadRecord → Option ℕ → ℕ → Out (Result (Option ℕ) Damaged)
insert t root id = on_key (key_at t id) (out (Err damage) t) (λ key. insert_at t max_path key root id)

-- Where the search for a thread goes on from a node: its links are read, then its key is read and compared.
unfoldable pub sought_at : List ThreadRecord → TreeKey → ℕ → ℕ → Sought
sought_at t key id i =
    on_links (links_at t i) sought.Damaged
    (λ l. on_key (key_at t i) sought.Damaged
    (λ k. on_ordering (compare_tree_keys key k)
    (sought.Left l.left)
    (if_equal i id (sought.Found l) sought.Damaged)
    (sought.Right l.right)))

-- The path to a thread, the thread's links, and the room that the path has left.
pub data Search : Type 0 where
  found : List Step → Links → ℕ → Search
  missing : Search

-- Refused first.
unfoldable pub on_search : {A : Type 0} → Search → A → (List Step → Links → ℕ → A) → A
on_search (found s l room) a f = f s l room
on_search missing a f = a

-- The way down from a link to a thread, with room for so many steps more.
unfoldable pub search : ℕ → List ThreadRecord → TreeKey → ℕ → Option ℕ → List Step → Search
search zero t key id at s =
    on_link at missing
    (λ i. on_sought (sought_at t key id i) missing (λ l. found s l zero) (λ l. missing) (λ l. missing))
search (suc room) t key id at s =
    on_link at missing
    (λ i. on_sought (sought_at t key id i) missing (λ l. found s l (suc room))
    (λ l. search room t key id l (record { id = i; right = false } ∷ s))
    (λ l. search room t key id l (record { id = i; right = true } ∷ s)))

-- The path to a right side's leftmost thread, that thread, and its right link.
pub data Successor : Type 0 where
  next : List Step → ℕ → Option ℕ → Successor
  none : Successor

-- Refused first.
unfoldable pub on_successor : {A : Type 0} → Successor → A → (List Step → ℕ → Option ℕ → A) → A
on_successor (next s i r) a f = f s i r
on_successor none a f = a

-- Down the left links to the leftmost thread, with room for so many steps more.
unfoldable pub successor : ℕ → List ThreadRecord → ℕ → List Step → Successor
successor zero t i s = on_links (links_at t i) none (λ l. on_link l.left (next s i l.right) (λ j. none))
successor (suc room) t i s =
    on_links (links_at t i) none
    (λ l. on_link l.left (next s i l.right) (λ j. successor room t j (record { id = i; right = false } ∷ s)))

-- These links stored at a record, which is then balanced.
abbrev pub store_balanced : List ThreadRecord → ℕ → Links → Out (Result (Option ℕ) Damaged)
store_balanced t i l =
    on_made (set_links t i l) (out (Err damage))
    (λ t₁. on_turned (balance t₁ i) (out (Err damage))
    (λ top t₂. out (Ok (Some top)) t₂))

-- The successor takes the place of a removed thread with two sides; its own path is rebuilt first.
abbrev pub replace_by_successor : List ThreadRecord → ℕ → ℕ → ℕ → Out (Result (Option ℕ) Damaged)
replace_by_successor t room a b =
    on_successor (successor room t b []) (out (Err damage) t)
    (λ steps i r. on_rooted (rebuild steps t r) (out (Err damage))
    (λ sub t₁. store_balanced t₁ i (record { left = Some a; right = sub; height = 1 })))

-- What takes the place of a removed thread with these links: the one side that is there, or the successor.
unfoldable pub replace : List ThreadRecord → ℕ → Option ℕ → Option ℕ → Out (Result (Option ℕ) Damaged)
replace t room left right =
    on_link left (out (Ok right) t)
    (λ a. on_link right (out (Ok (Some a)) t)
    (λ b. replace_by_successor t room a b))

-- The path to a removed thread rebuilt over what took its place; the thread's own links are emptied last.
abbrev pub rebuild_removed : List ThreadRecord → List Step → Option ℕ → ℕ → Out (Result (Option ℕ) Damaged)
rebuild_removed t steps sub id =
    on_rooted (rebuild steps t sub) (out (Err damage))
    (λ top t₁. on_made (set_links t₁ id empty_links) (out (Err damage))
    (λ t₂. out (Ok top) t₂))

-- The thread at the end of a path, with these links and so much room beside the path: it is replaced, and the path
-- rebuilt.
abbrev pub remove_found : List ThreadRecord → List Step → Links → ℕ → ℕ → Out (Result (Option ℕ) Damaged)
remove_found t steps l room id =
    on_rooted (replace t room l.left l.right) (out (Err damage))
    (λ sub t₁. rebuild_removed t₁ steps sub id)

-- A thread with this key taken out of the tree under a root, by a path with so much room (`remove_at`).
abbrev pub remove_at : List ThreadRecord → ℕ → TreeKey → Option ℕ → ℕ → Out (Result (Option ℕ) Damaged)
remove_at t room key root id =
    on_search (search room t key id root []) (out (Err damage) t) (λ steps l left. remove_found t steps l left id)

-- A thread taken out of the tree under a root (`Tree::remove`) (SPECIFICATION 6.3).
unfoldable pub remove : List ThreadRecord → Option ℕ → ℕ → Out (Result (Option ℕ) Damaged)
remove t root id = on_key (key_at t id) (out (Err damage) t) (λ key. remove_at t max_path key root id)
