-- Laws of placing a thread: in trees and lists alike, where those with a number below `limit` are there, and `limit`
-- itself means none.
use Rattle.std.specs.Prelude.{◌≡◌, refl, Bool, true, false, ◌≢◌, ℕ, ◌≤◌, ◌<◌, eqb}
use Rattle.std.proofs.Common.{sym, ap, ◌∙◌, arith, eqb-true, eq-eqb, ne_eqb}
use Rattle.std.proofs.lemmas.Bool.{eqb-false}
use Rattle.refusal.specs.Cases.{choose}
use Rattle.sound_queue.specs.Forest.{placed}

-- Where the thread stands.
pub placed_same : {A : Type 0} (i : ℕ) (k : A) (place : ℕ → A) → placed i k place i ≡ k
unfolding placed choose
placed_same i k place = rw (eq-eqb i i refl)

-- Where every other stands.
pub placed_other : {A : Type 0} (i : ℕ) (k : A) (place : ℕ → A) (j : ℕ) → j ≢ i → placed i k place j ≡ place j
unfolding placed choose
placed_other i k place j h = rw (ne_eqb j i h)

-- Of two numbers: equal, or not.
pub same_or_not : {A : Type 0} (j i : ℕ) → (j ≡ i → A) → (j ≢ i → A) → A
same_or_not {A} j i f g = go (eqb j i) refl
  where
    go : (x : Bool) → eqb j i ≡ x → A
    go true e = f (eqb-true j i e)
    go false e = g (eqb-false j i e)

-- Placed where it was, nothing changes.
pub placed_kept : {A : Type 0} (i : ℕ) (place : ℕ → A) (j : ℕ) → placed i (place i) place j ≡ place j
placed_kept i place j = same_or_not j i
    (λ e. rw (e, placed_same i (place i) place)) (λ e. placed_other i (place i) place j e)

-- f tells whom number k has before, g afterwards.
module _ (limit i k : ℕ) (place : ℕ → ℕ) (b : k < limit) (f g : ℕ → Bool) (is : (j : ℕ) → f j ≡ eqb (place j) k)
    (same : (j : ℕ) → j ≢ i → g j ≡ f j) where
  -- i joins k.
  pub joined_here : g i ≡ true → (j : ℕ) → g j ≡ eqb (placed i k place j) k
  joined_here h j = same_or_not j i
      (λ e. rw (e, placed_same i k place) (h ∙ sym (eq-eqb k k refl)))
      (λ e. rw (placed_other i k place j e) (same j e ∙ is j))

  -- i leaves k.
  pub left_here : g i ≡ false → (j : ℕ) → g j ≡ eqb (placed i limit place j) k
  left_here h j = same_or_not j i
      (λ e. rw (e, placed_same i limit place) (h ∙ sym (ne_eqb limit k (λ z. omega arith))))
      (λ e. rw (placed_other i limit place j e) (same j e ∙ is j))

-- Elsewhere nothing changes.
module _ (limit i k : ℕ) (place : ℕ → ℕ) (j m : ℕ) (b : m < limit) (d : m ≢ k) where
  pub joined_else : limit ≤ place i → eqb (place j) m ≡ eqb (placed i k place j) m
  joined_else n = same_or_not j i
      (λ e.
      let w : place j ≡ place i = ap place e in
      rw (ap (placed i k place) e ∙ placed_same i k place)
      (ne_eqb (place j) m (λ z. omega arith) ∙ sym (ne_eqb k m (λ z. d (sym z)))))
      (λ e. rw (placed_other i k place j e))

  pub left_else : place i ≡ k → eqb (place j) m ≡ eqb (placed i limit place j) m
  left_else n = same_or_not j i
      (λ e. rw (ap (placed i limit place) e ∙ placed_same i limit place)
      (ne_eqb (place j) m (λ z. d (sym z ∙ ap place e ∙ n)) ∙ sym (ne_eqb limit m (λ z. omega arith))))
      (λ e. rw (placed_other i limit place j e))
