-- Laws of times as they are written.
use Rattle.std.specs.Prelude.{ℕ, zero, suc, ◌+◌, ◌-◌, ◌*◌, ◌/◌, ◌%◌, ◌<◌, ◌≡◌, refl, List, [], ◌∷◌, length}
use Rattle.std.proofs.Common.{arith, ap, sym, ◌∙◌}
use Rattle.std.proofs.Math.Numerals.{unary_clauses}
use Rattle.refusal.specs.Cases.{equal, not_equal}
use Rattle.text.specs.Writing.{Page, stored, written, digits_of, right_in}
use Rattle.text.specs.Times.{fraction_from}

-- A number in a column of no width is just its digits.
none_before : (k : ℕ) → 0 - k ≡ 0
none_before k = omega arith

pub no_column : (p : Page) {r : Page} (n : ℕ) → r ≡ written p (right_in 0 (digits_of n)) → r ≡ written p (digits_of n)
unfolding right_in
no_column p n e = rw (none_before (length (digits_of n))) at e

-- A byte, then more.
pub byte_then : (p : Page) {q r : Page} (b : ℕ) (rest : List ℕ) → q ≡ stored p b → r ≡ written q rest
    → r ≡ written p (b ∷ rest)
unfolding written
byte_then p b rest e f = f ∙ ap (λ x. written x rest) e

-- Digit by digit: one more, nothing left, and as many as there may be.
pub fraction_at : (k n : ℕ) (p : Page) → 0 < k → (n ≡ 0 → ⊥) → written p (fraction_from k n)
    ≡ written (stored p (48 + n / 100000 % 10)) (fraction_from (k - 1) (n % 100000 * 10))
unfolding fraction_from written
fraction_at zero n p h z = absurd (omega arith)
fraction_at (suc k) n p h z =
    simp unary_clauses
    (ap (written p) (sym (not_equal [] ((48 + n / 100000 % 10) ∷ fraction_from k (n % 100000 * 10)) n 0 z refl)))

pub fraction_none : (k n : ℕ) (p : Page) → n ≡ 0 → written p (fraction_from k n) ≡ p
unfolding fraction_from written
fraction_none zero n p z = refl
fraction_none (suc k) n p z =
    ap (written p) (sym (equal [] ((48 + n / 100000 % 10) ∷ fraction_from k (n % 100000 * 10)) n 0 z refl))

pub fraction_end : (k n : ℕ) (p : Page) → k ≡ 0 → written p (fraction_from k n) ≡ p
unfolding fraction_from written
fraction_end k n p h = rw h

pub ruleset fractions = (fraction_at, fraction_none, fraction_end)
