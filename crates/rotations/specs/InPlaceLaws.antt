-- What the way up does in place is what the definitions say: a link stored alone is a store of the links read with it,
-- and a node whose sides are even keeps its links.
use Rattle.std.specs.Prelude.{◌≡◌, List, Bool, ℕ, ◌+◌, ltb, Result, Ok, Err}
use Rattle.refusal.specs.Answer.{or_damaged, damage}
use Rattle.std.proofs.Math.Path.{refl}
use Rattle.std.proofs.Common.{sym, arith, lt-ltb, le-ltb}
use Rattle.std.proofs.Math.Bool.{true, false}
use Rattle.refusal.specs.Cases.{never, choose, if_less, given, holds, fails}
use Rattle.avl.specs.declared.Lean.{Lean}
use Rattle.avl.specs.declared.Lean.TheVariants.{Left, Right, Even}
use Rattle.avl.specs.Rotation.{lean_of, on_lean}
use Rattle.avl.specs.RotationLaws.{Leans, leans}
use Rattle.thread.specs.declared.Links.{Links}
use Rattle.thread.specs.declared.ThreadRecord.{ThreadRecord}
use Rattle.rows.specs.Table.{Out, out, links_at, set_links, set_height}
use Rattle.rows.specs.Asked.{answering}
use Rattle.rows.specs.TableCases.{on_links, on_made}
use Rattle.rows.specs.TableLaws.{set_height_links}
use Rattle.rotations.specs.AnswersLaws.{same_turn}
use Rattle.rotations.specs.Cases.{on_height}
use Rattle.rotations.specs.CasesLaws.{height_got, height_damaged}
use Rattle.rotations.specs.Balance.{height, larger, update, balance}
use Rattle.rotations.specs.InPlace.{is_even, height_stored, balance_by}
use Rattle.refusal.specs.declared.Damaged.{Damaged}

even_lean : (a b : ℕ) → is_even a b ≡ true → lean_of a b ≡ Even
unfolding is_even if_less choose
even_lean a b h = go (lean_of a b) refl (leans a b)
  where
    go : (x : Lean) → lean_of a b ≡ x → Leans x a b → lean_of a b ≡ Even
    go Left e k = let f : ltb (b + 1) a ≡ true = lt-ltb (b + 1) a k in never cc
    go Right e k =
        let g : ltb (b + 1) a ≡ false = le-ltb (b + 1) a (omega arith) in
        let f : ltb (a + 1) b ≡ true = lt-ltb (a + 1) b k in never cc
    go Even e k = e

module _ (t : List ThreadRecord) (i : ℕ) {l : Links} (e : links_at t i ≡ Ok l) where
  update_even : (a b : ℕ) → height t l.left ≡ Ok a → height t l.right ≡ Ok b
      → on_made (update t i l) (out (Err damage)) (λ t₁. out (Ok i) t₁) ≡ height_stored t i a b
  unfolding update height_stored on_height on_made given if_less choose
  update_even a b f g = rw (f, g) (go (ltb (larger a b) 255))
    where
      go : (x : Bool)
          → on_made (choose x (set_links t i (record { left = l.left; right = l.right; height = larger a b + 1 }))
          (out (Err damage) t)) (out (Err damage)) (λ t₁. out (Ok i) t₁)
          ≡ choose x (on_made (set_height t i (larger a b + 1)) (out (Err damage)) (λ t₁. out (Ok i) t₁))
          (out (Err damage) t)
      go true = rw (set_height_links t i e (larger a b + 1))
      go false = refl

  no_left : height t l.left ≡ (Err damage) → out (Err damage) t ≡ balance t i
  unfolding balance on_links on_height
  no_left f = rw (e, f)

  no_right : {a : ℕ} → height t l.left ≡ Ok a → height t l.right ≡ (Err damage)
      → out (Err damage) t ≡ balance t i
  unfolding balance on_links on_height
  no_right f g = rw (e, f, g)

  stayed : {a b : ℕ} → height t l.left ≡ Ok a → height t l.right ≡ Ok b → is_even a b ≡ true
      → height_stored t i a b ≡ balance t i
  unfolding balance on_links on_height on_lean
  stayed {a} {b} f g k = rw (e, f, g, even_lean a b k) (sym (update_even a b f g))

  -- Balanced by the links that the record has, a node is balanced.
  pub by_its_links : balance_by t i l.left l.right ≡ balance t i
  unfolding balance_by on_height choose
  by_its_links = go (height t l.left) refl (height t l.right) refl
    where
      even : (a b : ℕ) → height t l.left ≡ Ok a → height t l.right ≡ Ok b → (x : Bool)
          → is_even a b ≡ x → choose x (height_stored t i a b) (balance t i) ≡ balance t i
      even a b f g true k = stayed f g k
      even a b f g false k = refl

      go : (x : Result ℕ Damaged) → height t l.left ≡ x → (y : Result ℕ Damaged) → height t l.right ≡ y
          → on_height x (out (Err damage) t)
          (λ a. on_height y (out (Err damage) t) (λ b. choose (is_even a b) (height_stored t i a b) (balance t i)))
          ≡ balance t i
      go (Err _) f y g = no_left f
      go (Ok a) f (Err _) g = no_right f g
      go (Ok a) f (Ok b) g = even a b f g (is_even a b) refl

-- An answer handed on.
pub handed_on : {r x : Result ℕ Damaged} {s : List ThreadRecord} (t : List ThreadRecord) (i : ℕ)
    → out (or_damaged r) s ≡ answering or_damaged (balance t i) → r ≡ x → out x s ≡ balance t i
handed_on {r} {x} {s} t i e m = rw (sym m) (same_turn r s (balance t i) e)

-- Going by two heights and by whether they are even: few laws, so that a search for what is not so comes to its end.
pub ruleset by_links = (height_got, height_damaged, holds, fails, handed_on)
