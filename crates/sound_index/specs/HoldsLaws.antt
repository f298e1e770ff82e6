-- A table that holds a tree represents it by ranks, and the other way round; and what else may change while it holds
-- it.
use Rattle.std.specs.Prelude.{◌≡◌, refl, true, ◌≢◌, List, [], ◌∷◌, ◌++◌, ℕ, suc, ◌≤◌, ◌<◌, length, eqb}
use Rattle.std.proofs.Common.{◌∙◌, arith, eq-eqb}
use Rattle.std.proofs.Math.Nat.{le_refl}
use Rattle.avl.specs.Tree.{Tree, leaf, node, in_order}
use Rattle.thread.specs.declared.ThreadRecord.{ThreadRecord}
use Rattle.rows.specs.Table.{links_at, key_at}
use Rattle.sound_index.specs.Holds.{Linked, Precedes, PrecedesAll, Rising, Holds, has}
use Rattle.rows.specs.TableLaws.{links_got_within}
use Rattle.sound_index.specs.Rank.{rank}
use Rattle.sound_index.specs.RankLaws.{rank_most, precedes_rank, rank_precedes}
use Rattle.sound_index.specs.Represents.{Up, Below, Represents, Fresh}
use Rattle.sound_index.specs.HasLaws.{or_first, or_second, has_middle, has_before, has_after}

-- Two lists of threads of the table, together.
pub below_append : (n : ℕ) (a b : List ℕ) → Below n a → Below n b → Below n (a ++ b)
below_append n [] b p q = q
below_append n (j ∷ a) b p q = record { here = p.here; rest = below_append n a b p.rest q }

module _ (key : ℕ → ℕ) where
  up_wide : (lo hi lo' hi' : ℕ) (l : List ℕ) → lo' ≤ lo → hi ≤ hi' → Up key lo hi l → Up key lo' hi' l
  up_wide lo hi lo' hi' [] a b p = tt
  up_wide lo hi lo' hi' (j ∷ l) a b p =
      record {
        ge = omega arith;
        lt = omega arith;
        rest = up_wide (suc (key j)) hi (suc (key j)) hi' l (le_refl _) b p.rest;
      }

  up_append : (lo mid hi : ℕ) (a b : List ℕ) → lo ≤ mid → mid ≤ hi → Up key lo mid a → Up key mid hi b
      → Up key lo hi (a ++ b)
  up_append lo mid hi [] b m n p q = up_wide mid hi lo hi b m (le_refl _) q
  up_append lo mid hi (j ∷ a) b m n p q =
      record { ge = p.ge; lt = omega arith; rest = up_append (suc (key j)) mid hi a b p.lt n p.rest q }

  up_split : (lo hi : ℕ) (a : List ℕ) (i : ℕ) (b : List ℕ) → Up key lo hi (a ++ i ∷ b)
      → (Up key lo (key i) a) × (lo ≤ key i) × (key i < hi) × (Up key (suc (key i)) hi b)
  up_split lo hi [] i b p = (tt, p.ge, p.lt, p.rest)
  up_split lo hi (j ∷ a) i b p =
      let q = up_split (suc (key j)) hi a i b p.rest in
      let m : suc (key j) ≤ key i = q.1 in
      let g = p.ge in
      (record { ge = p.ge; lt = m; rest = q.0 }, omega arith, q.2, q.3)

  -- A tree that is represented is in strict order,
  pub represents_up : (ranks : ℕ → ℕ) (t : List ThreadRecord) (lo hi : ℕ) (x : Tree) → Represents ranks key t lo hi x
      → Up key lo hi (in_order x)
  unfolding in_order
  represents_up ranks t lo hi leaf p = tt
  represents_up ranks t lo hi (node l i r) p =
      let g = p.ge in
      let h = p.lt in
      up_append lo (key i) hi (in_order l) (i ∷ in_order r) p.ge (omega arith)
      (represents_up ranks t lo (key i) l p.left)
      (record { ge = le_refl _; lt = p.lt; rest = represents_up ranks t (suc (key i)) hi r p.right })

  -- and one that is linked in strict order is represented.
  pub up_represents : (t : List ThreadRecord) (lo hi : ℕ) (x : Tree) → Linked t x → Up key lo hi (in_order x)
      → Represents key key t lo hi x
  unfolding in_order
  up_represents t lo hi leaf p u = tt
  up_represents t lo hi (node l i r) p u =
      let q = up_split lo hi (in_order l) i (in_order r) u in
      record {
        ge = q.1;
        lt = q.2;
        tie = refl;
        cell = p.links;
        left = up_represents t lo (key i) l p.left q.0;
        right = up_represents t (suc (key i)) hi r p.right q.3;
      }

-- The threads of a linked tree are in the table.
pub linked_below : (t : List ThreadRecord) (x : Tree) → Linked t x → Below (length t) (in_order x)
unfolding in_order
linked_below t leaf p = tt
linked_below t (node l i r) p =
    below_append (length t) (in_order l) (i ∷ in_order r) (linked_below t l p.left)
    (record { here = links_got_within t i p.links; rest = linked_below t r p.right })

-- A tree that is represented is linked.
pub represents_linked : (ranks key : ℕ → ℕ) (t : List ThreadRecord) (lo hi : ℕ) (x : Tree)
    → Represents ranks key t lo hi x → Linked t x
represents_linked ranks key t lo hi leaf p = tt
represents_linked ranks key t lo hi (node l i r) p =
    record {
      links = p.cell;
      left = represents_linked ranks key t lo (key i) l p.left;
      right = represents_linked ranks key t (suc (key i)) hi r p.right;
    }

-- Every rank of the list is lo or more.
abbrev AtLeast : List ThreadRecord → ℕ → List ℕ → Type 0
AtLeast t lo [] = Unit {0}
AtLeast t lo (j ∷ l) = record { here : lo ≤ rank t j; rest : AtLeast t lo l }

precedes_least : (t : List ThreadRecord) (i : ℕ) (l : List ℕ) → PrecedesAll t i l → AtLeast t (suc (rank t i)) l
precedes_least t i [] p = tt
precedes_least t i (j ∷ l) p = record { here = precedes_rank t i j p.here; rest = precedes_least t i l p.rest }

rising_up : (t : List ThreadRecord) (lo : ℕ) (l : List ℕ) → AtLeast t lo l → Rising t l
    → Up (rank t) lo (suc (length t)) l
rising_up t lo [] a p = tt
rising_up t lo (i ∷ l) a p =
    record {
      ge = a.here;
      lt = rank_most t i;
      rest = rising_up t (suc (rank t i)) l (precedes_least t i l p.first) p.rest;
    }

at_least_zero : (t : List ThreadRecord) (l : List ℕ) → AtLeast t 0 l
at_least_zero t [] = tt
at_least_zero t (j ∷ l) = record { here = omega arith; rest = at_least_zero t l }

up_precedes : (t : List ThreadRecord) (i lo hi : ℕ) (l : List ℕ) → i < length t → rank t i < lo → Below (length t) l
    → Up (rank t) lo hi l → PrecedesAll t i l
up_precedes t i lo hi [] m h b u = tt
up_precedes t i lo hi (j ∷ l) m h b u =
    let g = u.ge in
    record {
      here = rank_precedes t i j m b.here (omega arith);
      rest = up_precedes t i (suc (rank t j)) hi l m (omega arith) b.rest u.rest;
    }

up_rising : (t : List ThreadRecord) (lo hi : ℕ) (l : List ℕ) → Below (length t) l → Up (rank t) lo hi l → Rising t l
up_rising t lo hi [] b u = tt
up_rising t lo hi (i ∷ l) b u = record {
  first = up_precedes t i (suc (rank t i)) hi l b.here (le_refl _) b.rest u.rest;
  rest = up_rising t (suc (rank t i)) hi l b.rest u.rest;
}

-- A table that holds a tree represents it by ranks,
pub holds_represents : (t : List ThreadRecord) (x : Tree) → Holds t x
    → Represents (rank t) (rank t) t 0 (suc (length t)) x
holds_represents t x h =
    up_represents (rank t) t 0 (suc (length t)) x h.linked
    (rising_up t 0 (in_order x) (at_least_zero t (in_order x)) h.rising)

-- and one with the same keys that represents a tree by those ranks has it in order.
pub represents_rising : (t s : List ThreadRecord) (lo hi : ℕ) (x : Tree) → length s ≡ length t
    → Represents (rank t) (rank t) s lo hi x → Rising t (in_order x)
represents_rising t s lo hi x e p =
    up_rising t lo hi (in_order x) (rw e at (linked_below s x (represents_linked (rank t) (rank t) s lo hi x p)))
    (represents_up (rank t) (rank t) s lo hi x p)

carry_precedes : (t s : List ThreadRecord) (i j : ℕ) → key_at s i ≡ key_at t i → key_at s j ≡ key_at t j
    → Precedes t i j
    → Precedes s i j
carry_precedes t s i j e f p =
    record { key = p.key; other = p.other; has_key = e ∙ p.has_key; has_other = f ∙ p.has_other; less = p.less }

carry_all : (t s : List ThreadRecord) (i : ℕ) (l : List ℕ) → key_at s i ≡ key_at t i
    → ((j : ℕ) → has j l ≡ true → key_at s j ≡ key_at t j) → PrecedesAll t i l → PrecedesAll s i l
carry_all t s i [] e h p = tt
carry_all t s i (j ∷ l) e h p = record {
  here = carry_precedes t s i j e (h j (or_first (eqb j j) (has j l) (eq-eqb j j refl))) p.here;
  rest = carry_all t s i l e (λ k q. h k (or_second (eqb k j) (has k l) q)) p.rest;
}

-- A list stays in order where its threads keep their keys.
pub carry_rising : (t s : List ThreadRecord) (l : List ℕ) → ((j : ℕ) → has j l ≡ true → key_at s j ≡ key_at t j)
    → Rising t l → Rising s l
carry_rising t s [] h p = tt
carry_rising t s (i ∷ l) h p =
    let f : (j : ℕ) → has j l ≡ true → key_at s j ≡ key_at t j = λ k q. h k (or_second (eqb k i) (has k l) q) in
    record {
      first = carry_all t s i l (h i (or_first (eqb i i) (has i l) (eq-eqb i i refl))) f p.first;
      rest = carry_rising t s l f p.rest;
    }

carry_linked : (t s : List ThreadRecord) (x : Tree)
    → ((j : ℕ) → has j (in_order x) ≡ true → links_at s j ≡ links_at t j)
    → Linked t x → Linked s x
unfolding in_order
carry_linked t s leaf h p = tt
carry_linked t s (node l i r) h p = record {
  links = h i (has_middle (in_order l) i (in_order r)) ∙ p.links;
  left = carry_linked t s l (λ j e. h j (has_before j (in_order l) i (in_order r) e)) p.left;
  right = carry_linked t s r (λ j e. h j (has_after j (in_order l) i (in_order r) e)) p.right;
}

-- Whatever changes in the table, it still holds a tree whose threads kept their tree links and their keys.
pub holds_still : (t s : List ThreadRecord) (x : Tree)
    → ((j : ℕ) → has j (in_order x) ≡ true → links_at s j ≡ links_at t j)
    → ((j : ℕ) → has j (in_order x) ≡ true → key_at s j ≡ key_at t j) → Holds t x → Holds s x
holds_still t s x f g h =
    record { linked = carry_linked t s x f h.linked; rising = carry_rising t s (in_order x) g h.rising }

-- `Represents` asks of the keys only at the tree's threads.
pub rekey : (ranks f g : ℕ → ℕ) (t : List ThreadRecord) (lo hi : ℕ) (x : Tree)
    → ((j : ℕ) → has j (in_order x) ≡ true → g j ≡ f j)
    → Represents ranks f t lo hi x → Represents ranks g t lo hi x
unfolding in_order
rekey ranks f g t lo hi leaf h p = tt
rekey ranks f g t lo hi (node l i r) h p =
    let e : g i ≡ f i = h i (has_middle (in_order l) i (in_order r)) in
    let a = p.ge in
    let b = p.lt in
    let c = p.tie in
    record {
      ge = omega arith;
      lt = omega arith;
      tie = omega arith;
      cell = p.cell;
      left = rw e (rekey ranks f g t lo (f i) l (λ j q. h j (has_before j (in_order l) i (in_order r) q)) p.left);
      right =
          rw e (rekey ranks f g t (suc (f i)) hi r (λ j q. h j (has_after j (in_order l) i (in_order r) q)) p.right);
    }

-- A key that no thread of the tree has.
pub fresh_by : (ranks key : ℕ → ℕ) (k : ℕ) (x : Tree) → ((j : ℕ) → has j (in_order x) ≡ true → k ≢ key j)
    → Fresh ranks key k x
unfolding in_order
fresh_by ranks key k leaf h = tt
fresh_by ranks key k (node l i r) h = record {
  here = h i (has_middle (in_order l) i (in_order r));
  left = fresh_by ranks key k l (λ j e. h j (has_before j (in_order l) i (in_order r) e));
  right = fresh_by ranks key k r (λ j e. h j (has_after j (in_order l) i (in_order r) e));
}
