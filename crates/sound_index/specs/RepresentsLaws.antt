-- Storing elsewhere keeps what a table represents, and one store at the top of two subtrees represents their node.
use Rattle.std.specs.Prelude.{◌≡◌, refl, ◌≢◌, List, [], ◌∷◌, ℕ, suc, ◌≤◌, ◌<◌, Ok}
use Rattle.std.proofs.Common.{ap, ◌∙◌, arith}
use Rattle.avl.specs.Tree.{Tree, leaf, node}
use Rattle.avl.specs.Path.{Frame, left_of, right_of}
use Rattle.thread.specs.declared.Links.{Links}
use Rattle.thread.specs.declared.ThreadRecord.{ThreadRecord}
use Rattle.rows.specs.Table.{links_at}
use Rattle.sound_index.specs.Holds.{stored, root, links_over}
use Rattle.sound_index.specs.TableLaws.{stored_same, stored_other, stored_besides}
use Rattle.sound_index.specs.Represents.{links_by, Represents, Opened, Kept, Frames}

module _ (ranks key : ℕ → ℕ) where
  pub opened : (t : List ThreadRecord) (lo hi : ℕ) (l : Tree) (i : ℕ) (r : Tree)
      → Represents ranks key t lo hi (node l i r) → Opened ranks key t lo hi l i r
  opened t lo hi l i r p =
      record { old = _; ge = p.ge; lt = p.lt; tie = p.tie; cell = p.cell; left = p.left; right = p.right }

  -- Two tables with the same links at keys from lo to below hi.
  pub frame : (t s : List ThreadRecord) (lo hi : ℕ) (x : Tree)
      → ((j : ℕ) → lo ≤ key j → key j < hi → links_at s j ≡ links_at t j)
      → Represents ranks key t lo hi x → Represents ranks key s lo hi x
  frame t s lo hi leaf f p = tt
  frame t s lo hi (node l i r) f p = record {
    ge = p.ge;
    lt = p.lt;
    tie = p.tie;
    cell = f i p.ge p.lt ∙ p.cell;
    left = frame t s lo (key i) l (λ j a b. f j a (omega arith)) p.left;
    right = frame t s (suc (key i)) hi r (λ j a b. f j (omega arith) b) p.right;
  }

  -- The interval may be wider.
  pub widen : (t : List ThreadRecord) (lo hi lo' hi' : ℕ) (x : Tree) → lo' ≤ lo → hi ≤ hi'
      → Represents ranks key t lo hi x → Represents ranks key t lo' hi' x
  widen t lo hi lo' hi' leaf a b p = tt
  widen t lo hi lo' hi' (node l i r) a b p = record {
    ge = omega arith;
    lt = omega arith;
    tie = p.tie;
    cell = p.cell;
    left = widen t lo (key i) lo' (key i) l a (omega arith) p.left;
    right = widen t (suc (key i)) hi (suc (key i)) hi' r (omega arith) b p.right;
  }

  -- Threads with different keys are different.
  pub apart : (i j : ℕ) → key j ≢ key i → j ≢ i
  apart i j h e = h (ap key e)

  pub stored_below : (t : List ThreadRecord) (lo hi i : ℕ) (c : Links) (x : Tree) → key i < lo
      → Represents ranks key t lo hi x → Represents ranks key (stored t i c) lo hi x
  stored_below t lo hi i c x h =
      frame t (stored t i c) lo hi x (λ j a b. stored_other t i j c (apart i j (omega arith)))

  pub stored_above : (t : List ThreadRecord) (lo hi i : ℕ) (c : Links) (x : Tree) → hi ≤ key i
      → Represents ranks key t lo hi x → Represents ranks key (stored t i c) lo hi x
  stored_above t lo hi i c x h =
      frame t (stored t i c) lo hi x (λ j a b. stored_other t i j c (apart i j (omega arith)))

  pub kept_same : (t : List ThreadRecord) (lo hi : ℕ) → Kept ranks key t lo hi t
  kept_same t lo hi = record { below = λ j h. refl; above = λ j h. refl; besides = refl }

  pub kept_store : (t : List ThreadRecord) (lo hi i : ℕ) (c : Links) → lo ≤ key i → key i < hi
      → Kept ranks key t lo hi (stored t i c)
  kept_store t lo hi i c a b = record {
    below = λ j h. stored_other t i j c (apart i j (omega arith));
    above = λ j h. stored_other t i j c (apart i j (omega arith));
    besides = stored_besides t i c;
  }

  pub kept_trans : (t : List ThreadRecord) (lo hi : ℕ) (s : List ThreadRecord) (lo' hi' : ℕ) (u : List ThreadRecord)
      → Kept ranks key t lo hi s → Kept ranks key s lo' hi' u → (a b : ℕ) → a ≤ lo → a ≤ lo' → hi ≤ b → hi' ≤ b
      → Kept ranks key t a b u
  kept_trans t lo hi s lo' hi' u p q a b x y z w = record {
    below = λ j h. q.below j (omega arith) ∙ p.below j (omega arith);
    above = λ j h. q.above j (omega arith) ∙ p.above j (omega arith);
    besides = q.besides ∙ p.besides;
  }

  -- A store at i, between two parts that store within the interval.
  pub kept_between : (t : List ThreadRecord) (lo hi : ℕ) (s : List ThreadRecord) (i : ℕ) (c : Links)
      (u : List ThreadRecord) (lo' hi' : ℕ)
      → lo ≤ key i → key i < hi → lo ≤ lo' → hi' ≤ hi
      → Kept ranks key t lo' hi' s → Kept ranks key (stored s i c) lo hi u → Kept ranks key t lo hi u
  kept_between t lo hi s i c u lo' hi' a b p q x y =
      kept_trans t lo hi (stored s i c) lo hi u
      (kept_trans t lo' hi' s lo hi (stored s i c) x (kept_store s lo hi i c a b) lo hi (omega arith) (omega arith)
      (omega arith) (omega arith))
      y lo hi (omega arith) (omega arith) (omega arith) (omega arith)

  pub keep_below : (t : List ThreadRecord) (lo hi : ℕ) (s : List ThreadRecord) (a b : ℕ) (x : Tree)
      → Kept ranks key t lo hi s → b ≤ lo
      → Represents ranks key t a b x → Represents ranks key s a b x
  keep_below t lo hi s a b x k h = frame t s a b x (λ j p q. k.below j (omega arith))

  pub keep_above : (t : List ThreadRecord) (lo hi : ℕ) (s : List ThreadRecord) (a b : ℕ) (x : Tree)
      → Kept ranks key t lo hi s → hi ≤ a
      → Represents ranks key t a b x → Represents ranks key s a b x
  keep_above t lo hi s a b x k h = frame t s a b x (λ j p q. k.above j (omega arith))

  -- One node stored over two subtrees,
  pub put : (t : List ThreadRecord) (lo hi : ℕ) (l : Tree) (i : ℕ) (r : Tree) (c : Links) → links_at t i ≡ Ok c
      → ranks i ≡ key i → lo ≤ key i → key i < hi
      → Represents ranks key t lo (key i) l → Represents ranks key t (suc (key i)) hi r
      → Represents ranks key (stored t i (links_over l r)) lo hi (node l i r)
  put t lo hi l i r c e k a b p q = record {
    ge = a;
    lt = b;
    tie = k;
    cell = stored_same t i _ c e;
    left = stored_above t lo (key i) i _ l (omega arith) p;
    right = stored_below t (suc (key i)) hi i _ r (omega arith) q;
  }

  -- and the same with any height.
  pub put_opened : (t : List ThreadRecord) (lo hi : ℕ) (l : Tree) (i : ℕ) (r : Tree) (c : Links) (h : ℕ)
      → links_at t i ≡ Ok c → ranks i ≡ key i → lo ≤ key i → key i < hi
      → Represents ranks key t lo (key i) l → Represents ranks key t (suc (key i)) hi r
      → Opened ranks key (stored t i (links_by (root l) (root r) h)) lo hi l i r
  put_opened t lo hi l i r c h e k a b p q = record {
    old = h;
    ge = a;
    lt = b;
    tie = k;
    cell = stored_same t i _ c e;
    left = stored_above t lo (key i) i _ l (omega arith) p;
    right = stored_below t (suc (key i)) hi i _ r (omega arith) q;
  }

  -- What is stored at the end of a path leaves its frames.
  pub keep_frames : (t : List ThreadRecord) (a b : ℕ) (s : List ThreadRecord) (lo hi LO HI : ℕ) (z : List Frame)
      → Kept ranks key t a b s → lo ≤ a → b ≤ hi
      → Frames ranks key t lo hi LO HI z → Frames ranks key s lo hi LO HI z
  keep_frames t a b s lo hi LO HI [] k x y p = p
  keep_frames t a b s lo hi LO HI (left_of i r ∷ z) k x y p = record {
    end = p.end;
    link = p.link;
    old = p.old;
    hole = p.hole;
    ge = p.ge;
    lt = p.lt;
    small = p.small;
    tie = p.tie;
    cell = k.above i (omega arith) ∙ p.cell;
    side = keep_above t a b s (suc (key i)) p.end r k (omega arith) p.side;
    up = keep_frames t a b s lo p.end LO HI z k x (omega arith) p.up;
  }
  keep_frames t a b s lo hi LO HI (right_of l i ∷ z) k x y p = record {
    end = p.end;
    link = p.link;
    old = p.old;
    hole = p.hole;
    ge = p.ge;
    lt = p.lt;
    small = p.small;
    tie = p.tie;
    cell = k.below i (omega arith) ∙ p.cell;
    side = keep_below t a b s p.end (key i) l k (omega arith) p.side;
    up = keep_frames t a b s p.end hi LO HI z k (omega arith) y p.up;
  }

  -- The place at the end of a path lies within the tree's interval.
  pub frames_within : (t : List ThreadRecord) (lo hi LO HI : ℕ) (z : List Frame) → Frames ranks key t lo hi LO HI z
      → (LO ≤ lo) × (hi ≤ HI)
  frames_within t lo hi LO HI [] p = (p.low, p.high)
  frames_within t lo hi LO HI (left_of i r ∷ z) p =
      let q = frames_within t lo p.end LO HI z p.up in (q.0, omega arith)
  frames_within t lo hi LO HI (right_of l i ∷ z) p =
      let q = frames_within t p.end hi LO HI z p.up in (omega arith, q.1)
