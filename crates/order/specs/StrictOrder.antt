-- Comparing part by part is a strict total order: equal only of equal keys, turned about where the keys are, and
-- transitive.
use Rattle.std.specs.Prelude.{ℕ, ◌<◌, ◌≡◌, refl, Bool, true, false, List, [], ◌∷◌, ltb}
use Rattle.std.proofs.Common.{arith, sym, ◌∙◌, ltb-true, ltb-false, lt-ltb, le-ltb}
use Rattle.refusal.specs.Cases.{never, choose, if_less}
use Rattle.std.specs.declared.cmp.Ordering.{Ordering}
use Rattle.std.specs.declared.cmp.Ordering.TheVariants.{Less, Equal, Greater}
use Rattle.order.specs.Order.{compare_numbers, then_by, compare_parts}

-- What an ordering says of two numbers.
abbrev pub Says : Ordering → ℕ → ℕ → Type 0
Says Less a b = a < b
Says Equal a b = a ≡ b
Says Greater a b = b < a

pub says : (a b : ℕ) → Says (compare_numbers a b) a b
unfolding compare_numbers if_less choose
says a b = go (ltb a b) (ltb b a) refl refl
  where
    go : (x y : Bool) → ltb a b ≡ x → ltb b a ≡ y → Says (choose x Less (choose y Greater Equal)) a b
    go true y p q = ltb-true a b p
    go false true p q = ltb-true b a q
    go false false p q = omega (arith, ltb-false)

pub compare_less : (a b : ℕ) → a < b → compare_numbers a b ≡ Less
unfolding compare_numbers if_less choose
compare_less a b h = rw (lt-ltb a b h)

pub compare_greater : (a b : ℕ) → b < a → compare_numbers a b ≡ Greater
unfolding compare_numbers if_less choose
compare_greater a b h = rw (le-ltb a b (omega arith), lt-ltb b a h)

pub compare_equal : (a b : ℕ) → a ≡ b → compare_numbers a b ≡ Equal
unfolding compare_numbers if_less choose
compare_equal a b h = rw (le-ltb a b (omega arith), le-ltb b a (omega arith))

-- An ordering seen from the other side.
unfoldable pub flipped : Ordering → Ordering
flipped Less = Greater
flipped Equal = Equal
flipped Greater = Less

numbers_flipped : (a b : ℕ) → compare_numbers b a ≡ flipped (compare_numbers a b)
unfolding flipped
numbers_flipped a b = go (compare_numbers a b) (says a b)
  where
    go : (o : Ordering) → Says o a b → compare_numbers b a ≡ flipped o
    go Less h = compare_greater b a h
    go Equal h = compare_equal b a (sym h)
    go Greater h = compare_less b a h

then_flipped : (x y : Ordering) → flipped (then_by x y) ≡ then_by (flipped x) (flipped y)
unfolding then_by flipped
then_flipped Less y = refl
then_flipped Equal y = refl
then_flipped Greater y = refl

-- Two keys compare the other way round where they change places; so never both Less.
pub turned_about : (a b : List ℕ) → compare_parts b a ≡ flipped (compare_parts a b)
unfolding compare_parts flipped
turned_about [] [] = refl
turned_about [] (y ∷ b) = refl
turned_about (x ∷ a) [] = refl
turned_about (x ∷ a) (y ∷ b) =
    rw (then_flipped (compare_numbers x y) (compare_parts a b), numbers_flipped x y, turned_about a b)

-- A key is equal to itself, so it is not less than itself.
pub same_key : (a : List ℕ) → compare_parts a a ≡ Equal
unfolding compare_parts then_by
same_key [] = refl
same_key (x ∷ a) = rw (compare_equal x x refl) (same_key a)

-- Equal only of equal keys: two different keys are Less or Greater.
pub equal_only : (a b : List ℕ) → compare_parts a b ≡ Equal → a ≡ b
unfolding compare_parts then_by
equal_only [] [] e = refl
equal_only [] (y ∷ b) e = never cc
equal_only (x ∷ a) [] e = never cc
equal_only (x ∷ a) (y ∷ b) e = go (compare_numbers x y) (says x y) e (equal_only a b)
  where
    go : (o : Ordering) → Says o x y → then_by o (compare_parts a b) ≡ Equal → (compare_parts a b ≡ Equal → a ≡ b)
        → x ∷ a ≡ y ∷ b
    go Less h f k = never cc
    go Equal h f k = rw (h, k f)
    go Greater h f k = never cc

-- Less goes on from key to key.
pub less_transitive : (a b c : List ℕ) → compare_parts a b ≡ Less → compare_parts b c ≡ Less → compare_parts a c ≡ Less
unfolding compare_parts then_by
less_transitive [] [] c e f = f
less_transitive [] (y ∷ b) [] e f = never cc
less_transitive [] (y ∷ b) (z ∷ c) e f = refl
less_transitive (x ∷ a) [] c e f = never cc
less_transitive (x ∷ a) (y ∷ b) [] e f = never cc
less_transitive (x ∷ a) (y ∷ b) (z ∷ c) e f =
    go (compare_numbers x y) (compare_numbers y z) (says x y) (says y z) e f (less_transitive a b c)
  where
    go : (o p : Ordering) → Says o x y → Says p y z → then_by o (compare_parts a b) ≡ Less
        → then_by p (compare_parts b c) ≡ Less
        → (compare_parts a b ≡ Less → compare_parts b c ≡ Less → compare_parts a c ≡ Less)
        → then_by (compare_numbers x z) (compare_parts a c) ≡ Less
    go Less Less h k e f r = rw (compare_less x z (omega arith))
    go Less Equal h k e f r = rw (compare_less x z (omega arith))
    go Less Greater h k e f r = never cc
    go Equal Less h k e f r = rw (compare_less x z (omega arith))
    go Equal Equal h k e f r = rw (compare_equal x z (h ∙ k)) (r e f)
    go Equal Greater h k e f r = never cc
    go Greater Less h k e f r = never cc
    go Greater Equal h k e f r = never cc
    go Greater Greater h k e f r = never cc
