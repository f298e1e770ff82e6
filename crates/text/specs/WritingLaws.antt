-- Laws of pages, digits and templates, and what a page then has where there is room.
use Rattle.std.specs.Prelude.{ℕ, zero, suc, ◌+◌, ◌-◌, ◌*◌, ◌/◌, ◌%◌, ◌^◌, ◌<◌, ◌≤◌, ◌≡◌, refl, Bool, true, false, List}
use Rattle.std.specs.Prelude.{Option, [], ◌∷◌, ◌++◌, leb, eqb, length, take, drop, get_or, set}
use Rattle.std.proofs.Common.{arith, mod-lt, mod-eq_of_lt, pow-suc, le-div_iff_mul-le, div-lt_iff_lt-mul, sub-one, ap}
use Rattle.std.proofs.Common.{◌∙◌, length-append, length-drop, length-set, drop_of_length-le, drop-cons, lt-ltb}
use Rattle.std.proofs.Common.{leb-true, leb-false, eqb-true}
use Rattle.std.proofs.Math.Nat.{one-le-pow, pow-le-pow_right}
use Rattle.std.proofs.Math.Numerals.{add-one, unary_clauses}
use Rattle.std.proofs.Math.Path.{sym}
use Rattle.std.proofs.lemmas.List.Edits.{sets, sets-eq}
use Rattle.std.proofs.lemmas.Bool.{eqb-false}
use Rattle.io.specs.Digits.{last_digits as digits, IsDigitCount}
use Rattle.refusal.specs.Cases.{choose, if_less, if_equal, less, not_less, equal, not_equal}
use Rattle.text.specs.Reading.{most}
use Rattle.text.specs.Writing.{Page, page, stored, written, digits_within, digits_of}
use Rattle.text.specs.Writing.{separator, grouped, spaces, left_in, right_in, after, piece, filled}

-- One after the other.
pub written_append : (p : Page) (a b : List ℕ) → written p (a ++ b) ≡ written (written p a) b
unfolding written
written_append p [] b = refl
written_append p (x ∷ a) b = written_append (stored p x) a b

-- Two pieces that were written one after the other.
pub then_written : (p : Page) {q r : Page} (a b : List ℕ) → q ≡ written p a → r ≡ written q b → r ≡ written p (a ++ b)
then_written p a b e f = f ∙ ap (λ s. written s b) e ∙ sym (written_append p a b)

-- Byte by byte.
module _ (bytes : List ℕ) (i : ℕ) (p : Page) where
  pub written_at : i < length bytes
      → written p (drop i bytes) ≡ written (stored p (get_or bytes i 0)) (drop (i + 1) bytes)
  unfolding written
  written_at h = rw (drop-cons bytes i 0 h, add-one)

  pub written_end : length bytes ≤ i → written p (drop i bytes) ≡ p
  unfolding written
  written_end h = rw (drop_of_length-le bytes h)

-- Space by space.
pub spaced_at : (n : ℕ) (p : Page) → 0 < n → written p (spaces n) ≡ written (stored p 32) (spaces (n - 1))
unfolding written
spaced_at zero p h = absurd (omega arith)
spaced_at (suc n) p h = simp unary_clauses

pub spaced_end : (n : ℕ) (p : Page) → n ≡ 0 → written p (spaces n) ≡ p
unfolding written
spaced_end n p h = rw h

pub ruleset spacings = (spaced_at, spaced_end)

pub ruleset writings = (written_at, written_end)

pub length_digits : (k n : ℕ) → length (digits 10 k n) ≡ k
length_digits zero n = refl
length_digits (suc k) n = simp length-append (omega (arith, length_digits k (n / 10)))

-- The fewest digits that hold a number are its own. First of one digit, then of more.
one_digit : (f n : ℕ) → n < 10 → digits 10 (suc zero) n ≡ digits_within (suc f) n
unfolding digits_within
one_digit f n h = less _ _ _ _ h (rw (mod-eq_of_lt h, lt-ltb n 10 h))

module _ (k n : ℕ) (e : IsDigitCount 10 1 n (suc (suc k))) where
  no_less : 10 ^ suc k ≤ n
  no_less = rw (sub-one) at (e.2 (omega arith))

  no_more : n < 10 ^ suc k * 10
  no_more = rw (pow-suc 10 (suc k)) at e.1

  many : 10 ≤ n
  many = omega (arith, no_less, pow-suc 10 k, one-le-pow k 10 (omega arith))

  front : IsDigitCount 10 1 (n / 10) (suc k)
  front = (
    omega arith,
    (div-lt_iff_lt-mul {k = 10} {x = n} {y = 10 ^ suc k} (omega arith)).1 no_more,
    λ h. simp unary_clauses
        ((le-div_iff_mul-le {k = 10} {x = 10 ^ k} {y = n} (omega arith)).1 (rw (← pow-suc 10 k) no_less)),
  )

more_digits : (k f n : ℕ) → 10 ≤ n → digits 10 k (n / 10) ≡ digits_within f (n / 10)
    → digits 10 (suc k) n ≡ digits_within (suc f) n
unfolding digits_within
more_digits k f n h e = not_less _ _ _ _ h (rw (e, lt-ltb (n % 10) 10 (mod-lt n (omega arith))))

pub digits_within_lem : (k f n : ℕ) → k ≤ f → IsDigitCount 10 1 n k → digits 10 k n ≡ digits_within f n
digits_within_lem zero f n h e = absurd (omega (arith, e.0))
digits_within_lem (suc k) zero n h e = absurd (omega arith)
digits_within_lem (suc zero) (suc f) n h e = one_digit f n e.1
digits_within_lem (suc (suc k)) (suc f) n h e =
    more_digits (suc k) f n (many k n e) (digits_within_lem (suc k) f (n / 10) (omega arith) (front k n e))

-- A u64 has 20 digits at most.
few_by : (t : Bool) (k n : ℕ) → leb k 20 ≡ t → n ≤ most → IsDigitCount 10 1 n k → k ≤ 20
few_by true k n t h e = leb-true k 20 t
few_by false k n t h e =
    let long : 20 < k = leb-false k 20 t in
    absurd
    (omega (arith, e.2 (omega arith), pow-le-pow_right {n = 10} (omega arith) {i = 20} {j = k - 1} (omega arith)))

-- What io's digits are.
pub own_digits : (k n : ℕ) {bytes : List ℕ} → n ≤ most → IsDigitCount 10 1 n k → bytes ≡ digits 10 k n
    → bytes ≡ digits_of n
unfolding digits_of
own_digits k n h e d = d ∙ digits_within_lem k 20 n (few_by (leb k 20) k n refl h e) e

-- At the right of a column, as spaces and digits.
pub word_right : (p : Page) {q r : Page} (width k m : ℕ) {word bytes : List ℕ} → bytes ≡ word → k ≡ length bytes
    → m ≡ width - k → q ≡ written p (spaces m) → r ≡ written q bytes → r ≡ written p (right_in width word)
unfolding right_in
word_right p {q} width k m {word} {bytes} d l i f g =
    let room : m ≡ width - length word = i ∙ ap (λ x. width - x) (l ∙ ap length d) in
    rw (sym room) (then_written p (spaces m) word f (g ∙ ap (λ x. written q x) d))

pub word_left : (p : Page) {q r : Page} (width m : ℕ) (word : List ℕ) → m ≡ width - length word → q ≡ written p word
    → r ≡ written q (spaces m) → r ≡ written p (left_in width word)
unfolding left_in
word_left p width m word i f g = rw (sym i) (then_written p word (spaces m) f g)

-- How many underlines stand between digits.
separator_by : (n : ℕ) (t u : Bool) → eqb n 0 ≡ t → eqb (n % 3) 0 ≡ u
    → length {A = ℕ} (choose t [] (choose u (95 ∷ []) [])) ≡ n / 3 - (n - 1) / 3
unfolding choose
separator_by n true u e f = omega (arith, eqb-true n 0 e)
separator_by n false true e f = omega (arith, eqb-false n 0 e, eqb-true (n % 3) 0 f)
separator_by n false false e f = omega (arith, eqb-false n 0 e, eqb-false (n % 3) 0 f)

length_separator : (n : ℕ) → length (separator n) ≡ n / 3 - (n - 1) / 3
unfolding separator if_equal
length_separator n = separator_by n (eqb n 0) (eqb (n % 3) 0) refl refl

pub length_grouped : (l : List ℕ) → length (grouped l) ≡ length l + (length l - 1) / 3
unfolding grouped
length_grouped [] = refl
length_grouped (d ∷ rest) =
    simp (length-append, length_separator, length_grouped rest, unary_clauses) (omega arith)

-- Digit by digit.
module _ (digits : List ℕ) (i : ℕ) (p : Page) where
  pub groups_at : i < length digits → written p (grouped (drop i digits))
      ≡ written (written (stored p (get_or digits i 0)) (separator (length digits - (i + 1))))
      (grouped (drop (i + 1) digits))
  unfolding grouped written
  groups_at h =
      rw (drop-cons digits i 0 h, add-one, sym (length-drop (suc i) digits))
      (written_append (stored p (get_or digits i 0)) (separator (length (drop (suc i) digits)))
      (grouped (drop (suc i) digits)))

  pub groups_end : length digits ≤ i → written p (grouped (drop i digits)) ≡ p
  unfolding grouped written
  groups_end h = rw (drop_of_length-le digits h)

pub ruleset groupings = (groups_at, groups_end)

-- At the right of a column, as spaces and groups of digits.
pub groups_right : (p : Page) {q r : Page} (width k j room m : ℕ) {own bytes : List ℕ} → bytes ≡ own
    → k ≡ length bytes → j ≡ k - 1 → room ≡ width - k → m ≡ room - j / 3 → q ≡ written p (spaces m)
    → r ≡ written q (grouped bytes) → r ≡ written p (right_in width (grouped own))
groups_right p width k j room m {own} {bytes} d l b i h f g =
    word_right p width (length (grouped bytes)) m (ap grouped d) refl (omega (arith, length_grouped bytes)) f g

-- Of a template: nothing, and one byte.
pub nothing_written : (p : Page) → p ≡ written p []
unfolding written
nothing_written p = refl

pub byte_written : (p : Page) {q : Page} (b : ℕ) → q ≡ stored p b → q ≡ written p (b ∷ [])
unfolding written
byte_written p b e = e

-- By what a byte is.
module _ (p : Page) {r : Page} (a b : List ℕ) (n m : ℕ) where
  pub equal_written : n ≡ m → r ≡ written p a → r ≡ written p (if_equal n m a b)
  equal_written h e = e ∙ ap (λ x. written p x) (equal a b n m h refl)

  pub not_equal_written : (n ≡ m → ⊥) → r ≡ written p b → r ≡ written p (if_equal n m a b)
  not_equal_written h e = e ∙ ap (λ x. written p x) (not_equal a b n m h refl)

  pub less_written : n < m → r ≡ written p a → r ≡ written p (if_less n m a b)
  less_written h e = e ∙ ap (λ x. written p x) (less a b n m h refl)

  pub not_less_written : m ≤ n → r ≡ written p b → r ≡ written p (if_less n m a b)
  not_less_written h e = e ∙ ap (λ x. written p x) (not_less a b n m h refl)

module _ (p : Page) {r : Page} (width v i b : ℕ) (values : List ℕ) (is : v ≡ get_or values i 0) where
  pub value_written : i ≡ b - 97 → r ≡ written p (right_in width (digits_of v))
      → r ≡ written p (right_in width (digits_of (get_or values (b - 97) 0)))
  value_written f h = rw (sym (is ∙ ap (λ x. get_or values x 0) f)) h

  pub groups_written : i ≡ b - 65 → r ≡ written p (right_in width (grouped (digits_of v)))
      → r ≡ written p (right_in width (grouped (digits_of (get_or values (b - 65) 0))))
  groups_written f h = rw (sym (is ∙ ap (λ x. get_or values x 0) f)) h

pub ruleset choices = (
  nothing_written,
  byte_written,
  equal_written,
  not_equal_written,
  less_written,
  not_less_written,
  value_written,
  groups_written,
)

-- Byte by byte.
module _ (values word template : List ℕ) (i : ℕ) (escape : Option ℕ) (p : Page) where
  pub filled_at : i < length template → written p (filled values word escape (drop i template))
      ≡ written (written p (piece values word escape (get_or template i 0)))
      (filled values word (after escape (get_or template i 0)) (drop (i + 1) template))
  unfolding filled
  filled_at h = rw (drop-cons template i 0 h, add-one) (written_append p _ _)

  pub filled_end : length template ≤ i → written p (filled values word escape (drop i template)) ≡ p
  unfolding filled written
  filled_end h = rw (drop_of_length-le template h)

pub ruleset fillings = (filled_at, filled_end)

-- Where there is room, just the bytes are written, from the place on, and the rest of the page stays.
pub written_sets : (vs l : List ℕ) (i : ℕ) → i + length vs ≤ length l
    → written (page l i) vs ≡ page (sets l i vs) (i + length vs)
unfolding written stored
written_sets [] l i h = ap (λ k. page l k) (omega arith)
written_sets (v ∷ vs) l i h =
    rw (sym (less (page (set l i v) (i + 1)) (page l i) i (length l) (omega arith) refl), add-one)
    (written_sets vs (set l i v) (suc i) (rw (length-set l i v) (omega arith))
    ∙ ap (λ k. page (sets (set l i v) (suc i) vs) k) (omega arith))

pub written_fits : (vs l : List ℕ) (i : ℕ) → i + length vs ≤ length l
    → written (page l i) vs ≡ page (take i l ++ vs ++ drop (i + length vs) l) (i + length vs)
written_fits vs l i h = written_sets vs l i h ∙ ap (λ x. page x (i + length vs)) (sets-eq vs l i h)
