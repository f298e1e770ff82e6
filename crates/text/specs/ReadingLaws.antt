-- Laws of pieces and numbers: how each loop goes from byte to byte, and what it comes to.
use Prim.Native.Nat.{ℕ, suc, ◌+◌, ◌-◌, ◌*◌, ◌<◌, ◌≤◌}
use native.Mathlib.Omega.{arith}
use Rattle.std.proofs.Math.Numerals.{add-one}
use Rattle.std.proofs.Common.{ap, ◌∙◌, ltb-true, eqb-true}
use Rattle.std.specs.Prelude.{◌≡◌, Bool, true, false, List, [], ◌∷◌, eqb, ltb, length, drop, get_or}
use Rattle.std.specs.Prelude.{◌^◌, Option, None, Some, SomeIff, ok_or, Ok, Err}
use Rattle.std.proofs.Math.Path.{refl, sym}
use Rattle.std.proofs.Math.ListN.{drop_of_length-le}
use Rattle.std.proofs.Math.Seq.{drop-cons}
use Rattle.std.specs.List.{prefix_len}
use Rattle.std.specs.Cmp.Lexicographic.{pointwise}
use Rattle.std.specs.Prelude.{cond, not, ◌&&◌}
use Rattle.refusal.specs.Cases.{choose, if_less, if_equal, never, less, not_less, equal, not_equal}
use Rattle.text.specs.Reading.{before, run, same_bytes, with_byte, denoted, most, fitting}
use Rattle.text.specs.Reading.{Decimal}
use Rattle.text.specs.declared.reading.NumberError.TheVariants as error

-- A piece goes as far as its bytes are not its end.
pub before_by : (t : Bool) (n : ℕ) → choose t 0 (suc n) ≡ cond (not t) (1 + n) 0
unfolding choose
before_by true n = refl
before_by false n = omega arith

pub before_prefix : (b : ℕ) (l : List ℕ) → before b l ≡ prefix_len (λ x. not (eqb x b)) l
unfolding before if_equal
before_prefix b [] = refl
before_prefix b (x ∷ rest) = rw (before_prefix b rest) (before_by (eqb x b) _)

-- The next one starts behind all that is between pieces.
run_by : (t : Bool) (n : ℕ) → choose t (suc n) 0 ≡ cond t (1 + n) 0
unfolding choose
run_by true n = omega arith
run_by false n = refl

pub run_prefix : (b : ℕ) (l : List ℕ) → run b l ≡ prefix_len (λ x. eqb x b) l
unfolding run if_equal
run_prefix b [] = refl
run_prefix b (x ∷ rest) = rw (run_prefix b rest) (run_by (eqb x b) _)

-- Texts are the same where each byte of the one equals that of the other.
same_by : (t r : Bool) → choose t r false ≡ t && r
unfolding choose
same_by true r = refl
same_by false r = refl

pub same_pointwise : (a b : List ℕ) → same_bytes a b ≡ pointwise eqb a b
unfolding same_bytes if_equal
same_pointwise [] [] = refl
same_pointwise [] (y ∷ ys) = refl
same_pointwise (x ∷ xs) [] = refl
same_pointwise (x ∷ xs) (y ∷ ys) = rw (same_pointwise xs ys) (same_by (eqb x y) _)

-- More bytes denote no less.
more_by : (n m : ℕ) (t : Bool) → n ≤ m → n ≤ choose t n m
unfolding choose
more_by n m true h = omega arith
more_by n m false h = h

more_with : (n b : ℕ) → n ≤ with_byte n b
unfolding with_byte if_equal
more_with n b = more_by n (10 * n + (b - 48)) (eqb b 95) (omega arith)

pub denotes_more : (n : ℕ) (l : List ℕ) → n ≤ denoted n l
unfolding denoted
denotes_more n [] = omega arith
denotes_more n (b ∷ rest) = omega (arith, more_with n b, denotes_more (with_byte n b) rest)

-- Whether a number fits, from the answer.
fitted_by : (n : ℕ) (t : Bool) {m : ℕ} → choose t (Err error.Above) (Ok n) ≡ Ok m → m ≡ n
unfolding choose
fitted_by n true e = never (cc)
fitted_by n false e = cc

fitted : (n : ℕ) {m : ℕ} → fitting n ≡ Ok m → m ≡ n
unfolding fitting if_less
fitted n e = fitted_by n (ltb most n) e

over_by : (n : ℕ) (t : Bool) → ltb most n ≡ t → choose t (Err error.Above) (Ok n) ≡ Err error.Above → most < n
unfolding choose
over_by n true e p = ltb-true most n e
over_by n false e p = never (cc)

over : (n : ℕ) → fitting n ≡ Err error.Above → most < n
unfolding fitting if_less
over n e = over_by n (ltb most n) refl e

some_by : (n : ℕ) (t : Bool) {A : Type 0} → choose t (Err error.Above) (Ok n) ≡ Err error.NoNumeral → A
unfolding choose
some_by n true e = never (cc)
some_by n false e = never (cc)

some : (n : ℕ) {A : Type 0} → fitting n ≡ Err error.NoNumeral → A
unfolding fitting if_less
some n e = some_by n (ltb most n) e

-- A number with one byte more: an underline leaves it, and a digit goes behind the others.
module _ (n b : ℕ) where
  pub left_alone : b ≡ 95 → n ≤ most → Ok n ≡ fitting (with_byte n b)
  unfolding with_byte fitting
  left_alone e h = rw (sym (equal n (10 * n + (b - 48)) b 95 e refl)) (not_less _ _ _ _ h refl)

  pub with_digit : {d : ℕ} {r : Decimal} → (b ≡ 95 → ⊥) → d ≡ b - 48 → r ≡ fitting (10 * n + d)
      → r ≡ fitting (with_byte n b)
  unfolding with_byte
  with_digit e f h = rw (sym (not_equal n (10 * n + (b - 48)) b 95 e refl), sym f) h

module _ (l : List ℕ) (i n : ℕ) {w : ℕ} (so_far : denoted n (drop i l) ≡ w) where
  next : i < length l → denoted (with_byte n (get_or l i 0)) (drop (i + 1) l) ≡ w
  unfolding denoted
  next h = rw add-one (rw (drop-cons l i 0 h) at so_far)

  module _ {r : Decimal} (inside : i < length l) (more : r ≡ fitting (with_byte n (get_or l i 0))) where
    pub denotes_next : {m : ℕ} → r ≡ Ok m → denoted m (drop (i + 1) l) ≡ w
    denotes_next e = rw (fitted _ (sym more ∙ e)) (next inside)

    pub denotes_above : r ≡ Err error.Above → Err error.Above ≡ fitting w
    unfolding fitting
    denotes_above e =
        less _ _ _ _
        (omega
        (arith, over _ (sym more ∙ e), denotes_more (with_byte n (get_or l i 0)) (drop (i + 1) l), next inside))
        refl

    pub denotes_some : r ≡ Err error.NoNumeral → Err error.NoNumeral ≡ fitting w
    denotes_some e = some _ (sym more ∙ e)

  pub denotes_all : length l ≤ i → n ≤ most → Ok n ≡ fitting w
  unfolding denoted fitting
  denotes_all h k =
      let all : n ≡ w = (rw (drop_of_length-le l h) at so_far) in
      rw (sym all) (not_less _ _ _ _ k refl)

pub ruleset denotings = (denotes_next, denotes_above, denotes_some, denotes_all)

-- What is computed where it fits is the number, unless that is above the greatest.
pub computed : (o : Option ℕ) (n : ℕ) {r : Decimal} → SomeIff o (n < 2 ^ 64) n → r ≡ ok_or o error.Above
    → r ≡ fitting n
unfolding fitting
computed None n h e = e ∙ less _ _ _ _ (omega (arith, h)) refl
computed (Some x) n h e = e ∙ ap Ok h.1 ∙ not_less _ _ _ _ (omega (arith, h.0)) refl

-- Texts are the same just where the lists of their bytes are equal.
both_same : (x y : ℕ) (t : Bool) {r : Bool} → eqb x y ≡ t → choose t r false ≡ true → (x ≡ y) × (r ≡ true)
unfolding choose
both_same x y true e h = (eqb-true x y e, h)
both_same x y false e h = never (cc)

pub same_equal : (a b : List ℕ) → same_bytes a b ≡ true → a ≡ b
unfolding same_bytes if_equal
same_equal [] [] h = refl
same_equal [] (y ∷ ys) h = never (cc)
same_equal (x ∷ xs) [] h = never (cc)
same_equal (x ∷ xs) (y ∷ ys) h =
    let heads = both_same x y (eqb x y) refl h in
    let tails = same_equal xs ys heads.1 in
    cc (heads.0, tails)

pub equal_same : (a : List ℕ) → same_bytes a a ≡ true
unfolding same_bytes
equal_same [] = refl
equal_same (x ∷ xs) = sym (equal _ _ x x refl (sym (equal_same xs)))
