-- Laws of keys with numbers: keys first, then numbers, and the lesser of two.
use Rattle.std.specs.Prelude.{ℕ, ◌≡◌, refl, Bool, true, false, List, [], ◌∷◌, ◌++◌, ltb, length, Option, Some, None}
use Rattle.std.proofs.Common.{sym, ◌∙◌, subst, arith, lt-ltb, le-ltb}
use Rattle.std.proofs.Math.Path.{ap}
use Rattle.refusal.specs.Cases.{never, choose, if_less}
use Rattle.std.specs.declared.cmp.Ordering.{Ordering}
use Rattle.std.specs.declared.cmp.Ordering.TheVariants.{Less, Equal, Greater}
use Rattle.order.specs.Order.{compare_numbers, then_by, compare_parts, on_ordering}
use Rattle.order.specs.StrictOrder.{Says, says, compare_equal, flipped, turned_about}
use Rattle.thread.specs.TreeKeyLaws.{then_nothing}
use Rattle.dispatch_keys.specs.declared.DispatchKey.{DispatchKey}
use Rattle.arbitration.specs.Key.{key_parts, compare_keys}
use Rattle.selection.specs.declared.ReadyThread.{ReadyThread}
use Rattle.selection.specs.Heads.{on_ready, comes_before, lesser_ready}
use Rattle.sound_selection.specs.Claim.{Later, greater_key, higher_number}
use Rattle.sound_selection.specs.Within.{AtMost, less, same, pair_parts, Under, Every}
use Rattle.sound_selection.specs.WithinLaws.{at_most_trans, compared}

then_group : (x y z : Ordering) → then_by (then_by x y) z ≡ then_by x (then_by y z)
unfolding then_by
then_group Less y z = refl
then_group Equal y z = refl
then_group Greater y z = refl

-- What stands after lists of one length bears only where the lists are equal.
pub appended : (a b u v : List ℕ) → length a ≡ length b
    → compare_parts (a ++ u) (b ++ v) ≡ then_by (compare_parts a b) (compare_parts u v)
unfolding compare_parts then_by
appended [] [] u v e = refl
appended [] (y ∷ b) u v e = absurd (omega arith)
appended (x ∷ a) [] u v e = absurd (omega arith)
appended (x ∷ a) (y ∷ b) u v e =
    ap (then_by (compare_numbers x y)) (appended a b u v (omega arith))
    ∙ sym (then_group (compare_numbers x y) (compare_parts a b) (compare_parts u v))

-- Less as a whole, the first parts are at most.
pub first_parts : (a b u v : List ℕ) → length a ≡ length b → compare_parts (a ++ u) (b ++ v) ≡ Less → AtMost a b
unfolding then_by flipped
first_parts a b u v e f = compared a b less same
    (λ h. let z : Less ≡ Greater = sym f ∙ appended a b u v e
    ∙ ap (λ x. then_by x (compare_parts u v)) (turned_about b a ∙ ap flipped h) in never cc)

-- Equal first parts do not bear.
pub same_first : (x : ℕ) (a b : List ℕ) → compare_parts (x ∷ a) (x ∷ b) ≡ compare_parts a b
unfolding compare_parts then_by
same_first x a b = rw (compare_equal x x refl)

last_number : (i j : ℕ) → compare_parts (i ∷ []) (j ∷ []) ≡ compare_numbers i j
unfolding compare_parts
last_number i j = then_nothing (compare_numbers i j)

-- Keys first, then numbers.
pub pair_compare : (k l : DispatchKey) (i j : ℕ)
    → compare_parts (pair_parts k i) (pair_parts l j) ≡ then_by (compare_keys k l) (compare_numbers i j)
unfolding compare_keys
pair_compare k l i j =
    appended (key_parts k) (key_parts l) (i ∷ []) (j ∷ []) refl
    ∙ ap (then_by (compare_parts (key_parts k) (key_parts l))) (last_number i j)

abbrev is_less : Ordering → Bool
is_less Less = true
is_less Equal = false
is_less Greater = false

number_less : (i j : ℕ) → if_less i j true false ≡ is_less (compare_numbers i j)
unfolding if_less choose
number_less i j = go (compare_numbers i j) (says i j)
  where
    go : (o : Ordering) → Says o i j → choose (ltb i j) true false ≡ is_less o
    go Less h = rw (lt-ltb i j h)
    go Equal h = rw (le-ltb i j (omega arith))
    go Greater h = rw (le-ltb i j (omega arith))

before_by : (o : Ordering) (i j : ℕ)
    → on_ordering o true (if_less i j true false) false ≡ is_less (then_by o (compare_numbers i j))
unfolding on_ordering then_by
before_by Less i j = refl
before_by Equal i j = number_less i j
before_by Greater i j = refl

module _ (r old : ReadyThread) where
  before_tells : comes_before r old
      ≡ is_less (compare_parts (pair_parts r.key r.id.0) (pair_parts old.key old.id.0))
  unfolding comes_before
  before_tells =
      before_by (compare_keys r.key old.key) r.id.0 old.id.0
      ∙ ap is_less (sym (pair_compare r.key old.key r.id.0 old.id.0))

  before_yes : comes_before r old ≡ true → AtMost (pair_parts r.key r.id.0) (pair_parts old.key old.id.0)
  before_yes e =
      go (compare_parts (pair_parts r.key r.id.0) (pair_parts old.key old.id.0)) refl (sym before_tells ∙ e)
    where
      go : (o : Ordering) → compare_parts (pair_parts r.key r.id.0) (pair_parts old.key old.id.0) ≡ o
          → is_less o ≡ true → AtMost (pair_parts r.key r.id.0) (pair_parts old.key old.id.0)
      go Less h k = less h
      go Equal h k = never cc
      go Greater h k = never cc

  before_no : comes_before r old ≡ false → AtMost (pair_parts old.key old.id.0) (pair_parts r.key r.id.0)
  before_no e = compared (pair_parts r.key r.id.0) (pair_parts old.key old.id.0)
      (λ h. let z : false ≡ true = sym e ∙ before_tells ∙ ap is_less h in never cc)
      (λ h. same (sym h))
      (λ h. less h)

-- The lesser of two: at most either, and one of them.
pub lesser_old : (best : Option ReadyThread) (r : ReadyThread) (n : List ℕ) → Under best n
    → Under (lesser_ready best r) n
unfolding lesser_ready on_ready choose
lesser_old None r n u = absurd u
lesser_old (Some old) r n u = go (comes_before r old) refl
  where
    go : (x : Bool) → comes_before r old ≡ x → Under (choose x (Some r) (Some old)) n
    go true e = at_most_trans (before_yes r old e) u
    go false e = u

pub lesser_new : (best : Option ReadyThread) (r : ReadyThread) → Under (lesser_ready best r) (pair_parts r.key r.id.0)
unfolding lesser_ready on_ready choose
lesser_new None r = same refl
lesser_new (Some old) r = go (comes_before r old) refl
  where
    go : (x : Bool) → comes_before r old ≡ x
        → Under (choose x (Some r) (Some old)) (pair_parts r.key r.id.0)
    go true e = same refl
    go false e = before_no r old e

pub lesser_every : (P : ReadyThread → Type 0) (best : Option ReadyThread) (r : ReadyThread) → Every P best → P r
    → Every P (lesser_ready best r)
unfolding lesser_ready on_ready choose
lesser_every P None r h k = k
lesser_every P (Some old) r h k = go (comes_before r old)
  where
    go : (x : Bool) → Every P (choose x (Some r) (Some old))
    go true = k
    go false = h

-- At most, and of another thread: a greater key, or an equal one and a higher number.
pub later : (k l : DispatchKey) (i j : ℕ) → (i ≡ j → ⊥) → AtMost (pair_parts k i) (pair_parts l j) → Later k i l j
unfolding then_by
later k l i j d (less e) = go (compare_keys k l) refl (sym (pair_compare k l i j) ∙ e)
  where
    go : (o : Ordering) → compare_keys k l ≡ o → then_by o (compare_numbers i j) ≡ Less → Later k i l j
    go Less h f = greater_key h
    go Equal h f = higher_number h (subst (λ x. Says x i j) f (says i j))
    go Greater h f = never cc
later k l i j d (same e) = absurd (d (let z : i ≡ j = cc in z))
