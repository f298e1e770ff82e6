-- What the balance factor's test says of two heights, and laws for going by it.
use Rattle.std.specs.Prelude.{◌≡◌, refl, ℕ, ◌+◌, ◌-◌, ◌≤◌, ◌<◌, Bool, true, false, ltb}
use Rattle.std.proofs.Common.{sym, ◌∙◌, arith, ltb-true, ltb-false}
use Rattle.refusal.specs.Cases.{choose, if_less}
use Rattle.avl.specs.declared.Lean.{Lean}
use Rattle.avl.specs.declared.Lean.TheVariants.{Left, Right, Even}
use Rattle.avl.specs.Tree.{Near}
use Rattle.avl.specs.Rotation.{lean_of, on_lean}

-- What each answer says.
abbrev pub Leans : Lean → ℕ → ℕ → Type 0
Leans Left a b = b + 1 < a
Leans Right a b = a + 1 < b
Leans Even a b = Near a b

-- The test answers what is so.
pub leans : (a b : ℕ) → Leans (lean_of a b) a b
unfolding lean_of if_less choose
leans a b = go (ltb b a) (ltb 1 (a - b)) (ltb 1 (b - a)) refl refl refl
  where
    go : (x y z : Bool) → ltb b a ≡ x → ltb 1 (a - b) ≡ y → ltb 1 (b - a) ≡ z
        → Leans (choose x (choose y Left Even) (choose z Right Even)) a b
    go true true z p q r = let h : 1 < a - b = ltb-true _ _ q in omega arith
    go true false z p q r =
        let h : b < a = ltb-true _ _ p in let k : a - b ≤ 1 = ltb-false _ _ q in (omega arith, omega arith)
    go false y true p q r = let h : 1 < b - a = ltb-true _ _ r in omega arith
    go false y false p q r =
        let h : a ≤ b = ltb-false _ _ p in let k : b - a ≤ 1 = ltb-false _ _ r in (omega arith, omega arith)

module _ {A : Type 0} {y : A} {r x : Lean} (a b c : A) where
  pub leans_left : r ≡ x → r ≡ Left → y ≡ a → y ≡ on_lean x a b c
  unfolding on_lean
  leans_left e m h = rw (sym e ∙ m) h

  pub leans_right : r ≡ x → r ≡ Right → y ≡ b → y ≡ on_lean x a b c
  unfolding on_lean
  leans_right e m h = rw (sym e ∙ m) h

  pub leans_even : r ≡ x → r ≡ Even → y ≡ c → y ≡ on_lean x a b c
  unfolding on_lean
  leans_even e m h = rw (sym e ∙ m) h

pub ruleset leaning = (leans_left, leans_right, leans_even)
