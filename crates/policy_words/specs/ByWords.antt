-- A fact of every list of so many words, shown of each word by itself, is one of every list of that length.
use Rattle.std.specs.Prelude.{ℕ, zero, suc, ◌≡◌, List, [], ◌∷◌, length}
use Rattle.std.proofs.Common.{arith}

-- P of every list of n words.
abbrev pub Words : ℕ → (List ℕ → Type 0) → Type 0
Words zero P = P []
Words (suc n) P = (x : ℕ) → Words n (λ (r : List ℕ). P (x ∷ r))

pub by_words : (n : ℕ) (P : List ℕ → Type 0) → Words n P → (r : List ℕ) → length r ≡ n → P r
by_words zero P f [] h = f
by_words zero P f (x ∷ r) h = absurd (omega arith)
by_words (suc n) P f [] h = absurd (omega arith)
by_words (suc n) P f (x ∷ r) h = by_words n (λ (s : List ℕ). P (x ∷ s)) (f x) r (omega arith)
