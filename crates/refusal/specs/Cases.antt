-- Choosing by a test on numbers or by an answer's case. The functions stay shut in proofs, which go by the laws below
-- each.
use Rattle.std.specs.Prelude.{◌≡◌, Bool, true, false, not, ℕ, ◌<◌, ◌≤◌, ltb, eqb}
use Rattle.std.proofs.Common.{sym, ◌∙◌, arith, lt-ltb, le-ltb, eq-eqb, ne_eqb}
use Rattle.std.proofs.lemmas.Bool.{not-true, not-false}
use Rattle.refusal.specs.Answer.{Answer, value, refused}

-- The first where the test holds, else the second.
unfoldable pub choose : {A : Type 0} → Bool → A → A → A
choose true a b = a
choose false a b = b

unfoldable pub if_less : {A : Type 0} → ℕ → ℕ → A → A → A
unfolding choose
if_less n m a b = choose (ltb n m) a b

unfoldable pub if_equal : {A : Type 0} → ℕ → ℕ → A → A → A
unfolding choose
if_equal n m a b = choose (eqb n m) a b

-- f of a value that is used more than once.
unfoldable pub given : {A B : Type 0} → A → (A → B) → B
given x f = f x

-- A refusal is passed on; a value goes on.
unfoldable pub and_then : {A B : Type 0} → Answer A → (A → Answer B) → Answer B
and_then (value a) f = f a
and_then (refused n) f = refused n

-- Whatever is asked, where 0 would be 1: `cc` finds that in two constructors said to be equal.
pub never : {A : Type 0} → ◌≡◌ {A = ℕ} 0 1 → A
never e = absurd (omega arith)

module _ {A : Type 0} {y : A} (a b : A) where
  pub holds : {r x : Bool} → r ≡ x → r ≡ true → y ≡ a → y ≡ choose x a b
  unfolding choose
  holds e t h = rw (sym e ∙ t) h

  pub fails : {r x : Bool} → r ≡ x → r ≡ false → y ≡ b → y ≡ choose x a b
  unfolding choose
  fails e t h = rw (sym e ∙ t) h

  pub holds_by_not : {r x : Bool} → r ≡ x → not r ≡ false → y ≡ a → y ≡ choose x a b
  holds_by_not {r} e t h = holds e (not-false r t) h

  pub fails_by_not : {r x : Bool} → r ≡ x → not r ≡ true → y ≡ b → y ≡ choose x a b
  fails_by_not {r} e t h = fails e (not-true r t) h

  pub less : (n m : ℕ) → n < m → y ≡ a → y ≡ if_less n m a b
  unfolding if_less
  less n m p h = rw (lt-ltb n m p) h

  pub not_less : (n m : ℕ) → m ≤ n → y ≡ b → y ≡ if_less n m a b
  unfolding if_less
  not_less n m p h = rw (le-ltb n m p) h

  pub equal : (n m : ℕ) → n ≡ m → y ≡ a → y ≡ if_equal n m a b
  unfolding if_equal
  equal n m p h = rw (eq-eqb n m p) h

  pub not_equal : (n m : ℕ) → (n ≡ m → ⊥) → y ≡ b → y ≡ if_equal n m a b
  unfolding if_equal
  not_equal n m p h = rw (ne_eqb n m p) h

pub is : {A B : Type 0} {y : B} {r x : A} (f : A → B) → r ≡ x → y ≡ f r → y ≡ given x f
unfolding given
is f e h = rw (sym e) h

module _ {A B : Type 0} {y : Answer B} (f : A → Answer B) where
  pub went_on : {x : Answer A} {a : A} → value a ≡ x → y ≡ f a → y ≡ and_then x f
  unfolding and_then
  went_on e h = rw (sym e) h

  pub was_refused : {x : Answer A} {n : ℕ} → refused n ≡ x → y ≡ refused n → y ≡ and_then x f
  unfolding and_then
  was_refused e h = rw (sym e) h

pub ruleset cases =
    (holds, fails, holds_by_not, fails_by_not, less, not_less, equal, not_equal, is, went_on, was_refused)
