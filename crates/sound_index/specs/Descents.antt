-- The ways down on a table that represents a tree: to the least thread, to where a key is to stand, to a thread, and to
-- a successor.
use Rattle.std.specs.Prelude.{◌≡◌, ◌≢◌, List, ◌∷◌, length, Option, Some, None, Result, Ok, Bool}
use Rattle.std.proofs.Math.Path.{refl}
use Rattle.std.proofs.Math.Bool.{true, false}
use Prim.Native.Nat.{ℕ, zero, suc, ◌+◌, ◌≤◌, ◌<◌}
use native.Mathlib.Omega.{arith}
use Rattle.std.proofs.Math.Nat.{le_refl}
use borrow.Author.Tests.{eq-eqb}
use Rattle.refusal.specs.Cases.{choose, if_equal}
use Rattle.std.specs.declared.cmp.Ordering.{Ordering}
use Rattle.std.specs.declared.cmp.Ordering.TheVariants.{Less, Equal, Greater}
use Rattle.order.specs.Order.{compare_numbers, on_ordering}
use Rattle.order.specs.StrictOrder.{Says, says, compare_less, compare_equal, compare_greater}
use Rattle.avl.specs.Tree.{Tree, leaf, node, height, leftmost}
use Rattle.avl.specs.Path.{Frame, left_of, right_of, plug}
use Rattle.avl.specs.Operations as operations
use Rattle.thread.specs.declared.Links.{Links}
use Rattle.thread.specs.declared.TreeKey.{TreeKey}
use Rattle.thread.specs.declared.ThreadRecord.{ThreadRecord}
use Rattle.thread.specs.Membership.{on_link}
use Rattle.ready_index.specs.declared.Step.{Step}
use Rattle.ready_index.specs.declared.Way.TheVariants as way
use Rattle.ready_index.specs.declared.Sought.{Sought}
use Rattle.ready_index.specs.declared.Sought.TheVariants as sought
use Rattle.rows.specs.Table.{links_at}
use Rattle.rows.specs.TableCases.{on_links, on_key}
use Rattle.ready_index.specs.Cases.{on_way, on_sought}
use Rattle.ready_index.specs.Index.{descend, way_at, look_for, Walk, bottom, lost, walk, sought_at, Search, found}
use Rattle.ready_index.specs.Index.{missing, search, Successor, next, successor}
use Rattle.sound_index.specs.Holds.{root, links_over}
use Rattle.rows.specs.TableLaws.{links_got_within}
use Rattle.sound_index.specs.TableLaws.{inside_key}
use Rattle.sound_index.specs.Represents.{In, here, in_left, in_right, Compares, Read, links_by, Represents, Fresh}
use Rattle.sound_index.specs.Represents.{Frames, steps}
use Rattle.refusal.specs.declared.Damaged.{Damaged}

-- The step from a node j, by the ordering of the sought key.
way_by : (t : List ThreadRecord) (ranks : ℕ → ℕ) (i j : ℕ) (a : TreeKey) (l r : Tree) → Compares t ranks → Read t i a
    → links_at t j ≡ Ok (links_over l r)
    → way_at t a j ≡ on_ordering (compare_numbers (ranks i) (ranks j)) (way.Left (root l)) way.Equal
    (way.Right (root r))
unfolding way_at on_key on_links
way_by t ranks i j a l r c k e =
    let m = links_got_within t j e in
    let b = inside_key t j m in
    rw (b.1, c i j a b.0 k.inside m k.key b.1, e)

sought_by : (t : List ThreadRecord) (ranks : ℕ → ℕ) (i j id : ℕ) (a : TreeKey) (l r : Tree) → Compares t ranks
    → Read t i a → links_at t j ≡ Ok (links_over l r)
    → sought_at t a id j ≡ on_ordering (compare_numbers (ranks i) (ranks j)) (sought.Left (root l))
    (if_equal j id (sought.Found (links_over l r)) sought.Damaged) (sought.Right (root r))
unfolding sought_at on_key on_links
sought_by t ranks i j id a l r c k e =
    let m = links_got_within t j e in
    let b = inside_key t j m in
    rw (e, b.1, c i j a b.0 k.inside m k.key b.1)

module _ (ranks key : ℕ → ℕ) where
  pub in_bounds : {i : ℕ} {x : Tree} (t : List ThreadRecord) (lo hi : ℕ) → In i x → Represents ranks key t lo hi x
      → (lo ≤ key i) × (key i < hi) × (ranks i ≡ key i)
  in_bounds t lo hi here p = (p.ge, p.lt, p.tie)
  in_bounds t lo hi (in_left {j = j} m) p = let q = in_bounds t lo (key j) m p.left in (q.0, omega arith, q.2)
  in_bounds t lo hi (in_right {j = j} m) p =
      let q = in_bounds t (suc (key j)) hi m p.right in (omega arith, q.1, q.2)

  -- `first`'s way down ends at the leftmost thread.
  pub descend_is : (l : Tree) (n : ℕ) (t : List ThreadRecord) (lo hi : ℕ) (i : ℕ) (r : Tree)
      → Represents ranks key t lo hi (node l i r) → height l < n
      → descend n t i ≡ Ok (Some (leftmost l i r))
  unfolding descend on_links on_link
  descend_is leaf zero t lo hi i r p h = absurd (omega arith)
  descend_is (node a j b) zero t lo hi i r p h = absurd (omega arith)
  descend_is leaf (suc n) t lo hi i r p h = rw p.cell
  descend_is (node a j b) (suc n) t lo hi i r p h =
      rw p.cell (descend_is a n t lo (key i) j b p.left (omega arith))

  -- `contains` finds a thread of the tree,
  pub look_yes : {i : ℕ} {x : Tree} (n : ℕ) (t : List ThreadRecord) (lo hi : ℕ) (a : TreeKey) → Compares t ranks
      → Read t i a → In i x → Represents ranks key t lo hi x → height x ≤ n
      → look_for n t a i (root x) ≡ (Ok true)
  unfolding look_for on_link on_way on_ordering if_equal choose
  look_yes zero t lo hi a c k here p h = absurd (omega arith)
  look_yes zero t lo hi a c k (in_left m) p h = absurd (omega arith)
  look_yes zero t lo hi a c k (in_right m) p h = absurd (omega arith)
  look_yes {i} (suc n) t lo hi a c k (here {l = l} {r = r}) p h =
      rw (way_by t ranks i i a l r c k p.cell, compare_equal (ranks i) (ranks i) refl, eq-eqb i i refl)
  look_yes {i} (suc n) t lo hi a c k (in_left {l = l} {r = r} {j = j} m) p h =
      let b = in_bounds t lo (key j) m p.left in
      let q = p.tie in
      rw (way_by t ranks i j a l r c k p.cell, compare_less (ranks i) (ranks j) (omega arith))
      (look_yes n t lo (key j) a c k m p.left (omega arith))
  look_yes {i} (suc n) t lo hi a c k (in_right {l = l} {r = r} {j = j} m) p h =
      let b = in_bounds t (suc (key j)) hi m p.right in
      let q = p.tie in
      rw (way_by t ranks i j a l r c k p.cell, compare_greater (ranks i) (ranks j) (omega arith))
      (look_yes n t (suc (key j)) hi a c k m p.right (omega arith))

  look_no_by : (o : Ordering) (i j : ℕ) (l r : Tree) (E : Result Bool Damaged) (f : Result Bool Damaged) (n : ℕ) (t :
      List ThreadRecord)
      (a : TreeKey) (id : ℕ) → Says o i j → i ≢ j
      → look_for n t a id (root l) ≡ (Ok false) → look_for n t a id (root r) ≡ (Ok false)
      → on_way (on_ordering o (way.Left (root l)) way.Equal (way.Right (root r))) f E (λ m. look_for n t a id m)
      (λ m. look_for n t a id m) ≡ (Ok false)
  unfolding on_ordering on_way
  look_no_by Less i j l r E f n t a id s d p q = p
  look_no_by Equal i j l r E f n t a id s d p q = absurd (d s)
  look_no_by Greater i j l r E f n t a id s d p q = q

  -- and no other.
  pub look_no : (x : Tree) (n : ℕ) (t : List ThreadRecord) (lo hi i : ℕ) (a : TreeKey) → Compares t ranks → Read t i a
      → Fresh ranks key (ranks i) x → Represents ranks key t lo hi x → height x < n
      → look_for n t a i (root x) ≡ (Ok false)
  unfolding look_for on_link
  look_no leaf zero t lo hi i a c k f p h = absurd (omega arith)
  look_no (node l j r) zero t lo hi i a c k f p h = absurd (omega arith)
  look_no leaf (suc n) t lo hi i a c k f p h = refl
  look_no (node l j r) (suc n) t lo hi i a c k f p h =
      let q = p.tie in
      let g = f.here in
      rw (way_by t ranks i j a l r c k p.cell)
      (look_no_by (compare_numbers (ranks i) (ranks j)) (ranks i) (ranks j) l r _ _ n t a i (says (ranks i) (ranks j))
      (omega arith)
      (look_no l n t lo (key j) i a c k f.left p.left (omega arith))
      (look_no r n t (suc (key j)) hi i a c k f.right p.right (omega arith)))

  -- The way down from x, at the end of the path z, to the leaf where k is to stand.
  pub record Walks (t : List ThreadRecord) (LO HI k : ℕ) (z : List Frame) (x : Tree) (o : Walk) : Type 0 where
    pub path : List Frame
    pub lo : ℕ
    pub hi : ℕ
    pub ge : lo ≤ k
    pub lt : k < hi
    pub is : o ≡ bottom (steps path)
    pub frames : Frames ranks key t lo hi LO HI path
    pub whole : plug path leaf ≡ plug z x
    pub short : length path ≤ length z + height x

  walk_by : (o : Ordering) (t : List ThreadRecord) (LO HI k : ℕ) (z : List Frame) (l : Tree) (j : ℕ) (r : Tree)
      (A : Walk) (f g : Option ℕ → Walk) → Says o k (key j) → k ≢ key j
      → (k < key j → Walks t LO HI k (left_of j r ∷ z) l (f (root l)))
      → (key j < k → Walks t LO HI k (right_of l j ∷ z) r (g (root r)))
      → Walks t LO HI k z (node l j r)
      (on_way (on_ordering o (way.Left (root l)) way.Equal (way.Right (root r))) A lost f g)
  unfolding on_way on_ordering
  walk_by Less t LO HI k z l j r A f g s d p q = let w = p s in record {
    path = w.path;
    lo = w.lo;
    hi = w.hi;
    ge = w.ge;
    lt = w.lt;
    is = w.is;
    frames = w.frames;
    whole = w.whole;
    short = omega (arith, w.short);
  }
  walk_by Equal t LO HI k z l j r A f g s d p q = absurd (d s)
  walk_by Greater t LO HI k z l j r A f g s d p q = let w = q s in record {
    path = w.path;
    lo = w.lo;
    hi = w.hi;
    ge = w.ge;
    lt = w.lt;
    is = w.is;
    frames = w.frames;
    whole = w.whole;
    short = omega (arith, w.short);
  }

  -- For every tree, path and key that is not in the tree.
  abbrev pub WalksDown : Tree → Type 0
  WalksDown x =
      (n : ℕ) (t : List ThreadRecord) (lo hi LO HI i : ℕ) (a : TreeKey) (z : List Frame) → Compares t ranks → Read t i a
      → Represents ranks key t lo hi x → Frames ranks key t lo hi LO HI z
      → Fresh ranks key (ranks i) x → height x ≤ n → height x ≤ 100 → lo ≤ ranks i → ranks i < hi
      → Walks t LO HI (ranks i) z x (walk n t a (root x) (steps z))

  walk_leaf : WalksDown leaf
  unfolding walk on_link
  walk_leaf zero t lo hi LO HI i a z c m p q f h s u v =
      record { path = z; lo = lo; hi = hi; ge = u; lt = v; is = refl; frames = q; whole = refl; short = omega arith }
  walk_leaf (suc n) t lo hi LO HI i a z c m p q f h s u v =
      record { path = z; lo = lo; hi = hi; ge = u; lt = v; is = refl; frames = q; whole = refl; short = omega arith }

  walk_node : (l : Tree) (j : ℕ) (r : Tree) → WalksDown l → WalksDown r → WalksDown (node l j r)
  unfolding walk on_link
  walk_node l j r dl dr zero t lo hi LO HI i a z c m p q f h s u v = absurd (omega arith)
  walk_node l j r dl dr (suc n) t lo hi LO HI i a z c m p q f h s u v =
      rw (way_by t ranks i j a l r c m p.cell, p.tie)
      (walk_by (compare_numbers (ranks i) (key j)) t LO HI (ranks i) z l j r lost
      (λ x. walk n t a x (record { id = j; right = false } ∷ steps z))
      (λ x. walk n t a x (record { id = j; right = true } ∷ steps z))
      (says (ranks i) (key j)) f.here
      (λ y. dl n t lo (key j) LO HI i a (left_of j r ∷ z) c m p.left
      (record {
        end = hi;
        link = _;
        old = _;
        hole = le_refl _;
        ge = p.ge;
        lt = p.lt;
        small = omega arith;
        tie = p.tie;
        cell = p.cell;
        side = p.right;
        up = q;
      })
      f.left (omega arith) (omega arith) u y)
      (λ y. dr n t (suc (key j)) hi LO HI i a (right_of l j ∷ z) c m p.right
      (record {
        end = lo;
        link = _;
        old = _;
        hole = le_refl _;
        ge = p.ge;
        lt = p.lt;
        small = omega arith;
        tie = p.tie;
        cell = p.cell;
        side = p.left;
        up = q;
      })
      f.right (omega arith) (omega arith) y v))

  -- `insert`'s way down.
  pub walk_is : (x : Tree) → WalksDown x
  walk_is leaf = walk_leaf
  walk_is (node l j r) = walk_node l j r (walk_is l) (walk_is r)

  -- The way down from x, at the end of the path z, to a thread of it.
  pub record Finds (t : List ThreadRecord) (LO HI i : ℕ) (z : List Frame) (x : Tree) (o : Search) : Type 0 where
    pub path : List Frame
    pub lo : ℕ
    pub hi : ℕ
    pub left : Tree
    pub right : Tree
    pub rest : ℕ
    pub is : o ≡ found (steps path) (links_over left right) rest
    pub frames : Frames ranks key t lo hi LO HI path
    pub subtree : Represents ranks key t lo hi (node left i right)
    pub whole : plug path (node left i right) ≡ plug z x
    pub short : length path + height (node left i right) ≤ length z + height x
    pub enough : height (node left i right) ≤ suc rest

  -- For every tree that has the thread, and every path.
  abbrev pub FindsIn : ℕ → Tree → Type 0
  FindsIn i x =
      (n : ℕ) (t : List ThreadRecord) (lo hi LO HI : ℕ) (a : TreeKey) (z : List Frame) → Compares t ranks → Read t i a
      → Represents ranks key t lo hi x → Frames ranks key t lo hi LO HI z
      → height x ≤ n → height x ≤ 100 → Finds t LO HI i z x (search n t a i (root x) (steps z))

  find_here : (i : ℕ) (l r : Tree) → FindsIn i (node l i r)
  unfolding search on_link on_sought on_ordering if_equal choose
  find_here i l r zero t lo hi LO HI a z c m p q h s = absurd (omega arith)
  find_here i l r (suc n) t lo hi LO HI a z c m p q h s = record {
    path = z;
    lo = lo;
    hi = hi;
    left = l;
    right = r;
    rest = suc n;
    is = rw (sought_by t ranks i i i a l r c m p.cell, compare_equal (ranks i) (ranks i) refl, eq-eqb i i refl);
    frames = q;
    subtree = p;
    whole = refl;
    short = le_refl _;
    enough = omega arith;
  }

  find_left : (i j : ℕ) (l r : Tree) → In i l → FindsIn i l → FindsIn i (node l j r)
  unfolding search on_link on_sought on_ordering
  find_left i j l r m ih zero t lo hi LO HI a z c k p q h s = absurd (omega arith)
  find_left i j l r m ih (suc n) t lo hi LO HI a z c k p q h s =
      let b = in_bounds t lo (key j) m p.left in
      let e = p.tie in
      let g = ih n t lo (key j) LO HI a (left_of j r ∷ z) c k p.left
      (record {
        end = hi;
        link = _;
        old = _;
        hole = le_refl _;
        ge = p.ge;
        lt = p.lt;
        small = omega arith;
        tie = p.tie;
        cell = p.cell;
        side = p.right;
        up = q;
      })
      (omega arith) (omega arith) in
      record {
        path = g.path;
        lo = g.lo;
        hi = g.hi;
        left = g.left;
        right = g.right;
        rest = g.rest;
        is = rw (sought_by t ranks i j i a l r c k p.cell, compare_less (ranks i) (ranks j) (omega arith)) g.is;
        frames = g.frames;
        subtree = g.subtree;
        whole = g.whole;
        short = omega (arith, g.short);
        enough = g.enough;
      }

  find_right : (i j : ℕ) (l r : Tree) → In i r → FindsIn i r → FindsIn i (node l j r)
  unfolding search on_link on_sought on_ordering
  find_right i j l r m ih zero t lo hi LO HI a z c k p q h s = absurd (omega arith)
  find_right i j l r m ih (suc n) t lo hi LO HI a z c k p q h s =
      let b = in_bounds t (suc (key j)) hi m p.right in
      let e = p.tie in
      let g = ih n t (suc (key j)) hi LO HI a (right_of l j ∷ z) c k p.right
      (record {
        end = lo;
        link = _;
        old = _;
        hole = le_refl _;
        ge = p.ge;
        lt = p.lt;
        small = omega arith;
        tie = p.tie;
        cell = p.cell;
        side = p.left;
        up = q;
      })
      (omega arith) (omega arith) in
      record {
        path = g.path;
        lo = g.lo;
        hi = g.hi;
        left = g.left;
        right = g.right;
        rest = g.rest;
        is =
            rw (sought_by t ranks i j i a l r c k p.cell, compare_greater (ranks i) (ranks j) (omega arith)) g.is;
        frames = g.frames;
        subtree = g.subtree;
        whole = g.whole;
        short = omega (arith, g.short);
        enough = g.enough;
      }

  -- `remove`'s way down.
  pub find_is : {i : ℕ} {x : Tree} → In i x → FindsIn i x
  find_is {i} (here {l = l} {r = r}) = find_here i l r
  find_is {i} (in_left {l = l} {r = r} {j = j} m) = find_left i j l r m (find_is m)
  find_is {i} (in_right {l = l} {r = r} {j = j} m) = find_right i j l r m (find_is m)

  -- The successor's key is in its tree's interval.
  pub successor_bounds : (l : Tree) (t : List ThreadRecord) (lo hi i : ℕ) (r : Tree) (z : List Frame)
      → Represents ranks key t lo hi (node l i r)
      → (lo ≤ key (operations.successor_from z l i r).thread) × (key (operations.successor_from z l i r).thread < hi)
  successor_bounds leaf t lo hi i r z p = (p.ge, p.lt)
  successor_bounds (node a j b) t lo hi i r z p =
      let q = successor_bounds a t lo (key i) j b (left_of i r ∷ z) p.left in (q.0, omega arith)

  -- The way down to it. All keys of its path are above its own.
  pub record Succeeds (t : List ThreadRecord) (HI : ℕ) (z : List Frame) (x : Tree) (s : operations.Successor)
      (o : Successor) : Type 0 where
    pub hi : ℕ
    pub old : ℕ
    pub is : o ≡ next (steps s.path) s.thread (root s.right)
    pub frames : Frames ranks key t (suc (key s.thread)) hi (suc (key s.thread)) HI s.path
    pub tie : ranks s.thread ≡ key s.thread
    pub cell : links_at t s.thread ≡ Ok (links_by None (root s.right) old)
    pub subtree : Represents ranks key t (suc (key s.thread)) hi s.right
    pub short : length s.path + height s.right ≤ length z + height x

  -- For every node with this left side, and every path.
  abbrev pub SucceedsIn : Tree → Type 0
  SucceedsIn l =
      (i : ℕ) (r : Tree) (n : ℕ) (t : List ThreadRecord) (lo hi HI : ℕ) (z : List Frame)
      → Represents ranks key t lo hi (node l i r)
      → Frames ranks key t (suc (key (operations.successor_from z l i r).thread)) hi
      (suc (key (operations.successor_from z l i r).thread)) HI z
      → height l ≤ n → height (node l i r) ≤ 100
      → Succeeds t HI z (node l i r) (operations.successor_from z l i r) (successor n t i (steps z))

  successor_leaf : SucceedsIn leaf
  unfolding successor on_links on_link
  successor_leaf i r zero t lo hi HI z p q h s =
      record {
        hi = hi;
        old = _;
        is = rw p.cell;
        frames = q;
        tie = p.tie;
        cell = p.cell;
        subtree = p.right;
        short = omega arith;
      }
  successor_leaf i r (suc n) t lo hi HI z p q h s =
      record {
        hi = hi;
        old = _;
        is = rw p.cell;
        frames = q;
        tie = p.tie;
        cell = p.cell;
        subtree = p.right;
        short = omega arith;
      }

  successor_node : (a : Tree) (j : ℕ) (b : Tree) → SucceedsIn a → SucceedsIn (node a j b)
  unfolding successor on_links on_link
  successor_node a j b ih i r zero t lo hi HI z p q h s = absurd (omega arith)
  successor_node a j b ih i r (suc n) t lo hi HI z p q h s =
      let m = successor_bounds a t lo (key i) j b (left_of i r ∷ z) p.left in
      let g = ih j b n t lo (key i) HI (left_of i r ∷ z) p.left
      (record {
        end = hi;
        link = _;
        old = _;
        hole = le_refl _;
        ge = m.1;
        lt = p.lt;
        small = omega arith;
        tie = p.tie;
        cell = p.cell;
        side = p.right;
        up = q;
      })
      (omega arith) (omega arith) in
      record {
        hi = g.hi;
        old = g.old;
        is = rw p.cell g.is;
        frames = g.frames;
        tie = g.tie;
        cell = g.cell;
        subtree = g.subtree;
        short = omega (arith, g.short);
      }

  -- `remove`'s way to the successor.
  pub successor_is : (l : Tree) → SucceedsIn l
  successor_is leaf = successor_leaf
  successor_is (node a j b) = successor_node a j b (successor_is a)

  -- `insert`'s way down is refused at the thread itself.
  pub walk_lost : {i : ℕ} {x : Tree} (n : ℕ) (t : List ThreadRecord) (lo hi : ℕ) (a : TreeKey) (s : List Step)
      → Compares t ranks → Read t i a → In i x
      → Represents ranks key t lo hi x → height x ≤ n → walk n t a (root x) s ≡ lost
  unfolding walk on_link on_way on_ordering
  walk_lost zero t lo hi a s c k here p h = absurd (omega arith)
  walk_lost zero t lo hi a s c k (in_left m) p h = absurd (omega arith)
  walk_lost zero t lo hi a s c k (in_right m) p h = absurd (omega arith)
  walk_lost {i} (suc n) t lo hi a s c k (here {l = l} {r = r}) p h =
      rw (way_by t ranks i i a l r c k p.cell, compare_equal (ranks i) (ranks i) refl)
  walk_lost {i} (suc n) t lo hi a s c k (in_left {l = l} {r = r} {j = j} m) p h =
      let b = in_bounds t lo (key j) m p.left in
      let q = p.tie in
      rw (way_by t ranks i j a l r c k p.cell, compare_less (ranks i) (ranks j) (omega arith))
      (walk_lost n t lo (key j) a (record { id = j; right = false } ∷ s) c k m p.left (omega arith))
  walk_lost {i} (suc n) t lo hi a s c k (in_right {l = l} {r = r} {j = j} m) p h =
      let b = in_bounds t (suc (key j)) hi m p.right in
      let q = p.tie in
      rw (way_by t ranks i j a l r c k p.cell, compare_greater (ranks i) (ranks j) (omega arith))
      (walk_lost n t (suc (key j)) hi a (record { id = j; right = true } ∷ s) c k m p.right (omega arith))

  missing_by : (o : Ordering) (i j : ℕ) (l r : Option ℕ) (S : Sought) (F : Links → Search) (f g : Option ℕ → Search)
      → Says o i j → i ≢ j → f l ≡ missing → g r ≡ missing
      → on_sought (on_ordering o (sought.Left l) S (sought.Right r)) missing F f g ≡ missing
  unfolding on_sought on_ordering
  missing_by Less i j l r S F f g s d p q = p
  missing_by Equal i j l r S F f g s d p q = absurd (d s)
  missing_by Greater i j l r S F f g s d p q = q

  -- `remove`'s way down finds no thread that is not of the tree.
  pub search_missing : (x : Tree) (n : ℕ) (t : List ThreadRecord) (lo hi i : ℕ) (a : TreeKey) (s : List Step)
      → Compares t ranks → Read t i a → Fresh ranks key (ranks i) x
      → Represents ranks key t lo hi x → search n t a i (root x) s ≡ missing
  unfolding search on_link
  search_missing leaf zero t lo hi i a s c k f p = refl
  search_missing leaf (suc n) t lo hi i a s c k f p = refl
  search_missing (node l j r) zero t lo hi i a s c k f p =
      let q = p.tie in
      let g = f.here in
      rw (sought_by t ranks i j i a l r c k p.cell)
      (missing_by (compare_numbers (ranks i) (ranks j)) (ranks i) (ranks j) (root l) (root r) _ _ (λ x. missing)
      (λ x. missing) (says (ranks i) (ranks j)) (omega arith) refl refl)
  search_missing (node l j r) (suc n) t lo hi i a s c k f p =
      let q = p.tie in
      let g = f.here in
      rw (sought_by t ranks i j i a l r c k p.cell)
      (missing_by (compare_numbers (ranks i) (ranks j)) (ranks i) (ranks j) (root l) (root r) _ _
      (λ x. search n t a i x (record { id = j; right = false } ∷ s))
      (λ x. search n t a i x (record { id = j; right = true } ∷ s))
      (says (ranks i) (ranks j)) (omega arith)
      (search_missing l n t lo (key j) i a _ c k f.left p.left)
      (search_missing r n t (suc (key j)) hi i a _ c k f.right p.right))
