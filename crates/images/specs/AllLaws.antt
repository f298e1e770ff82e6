-- Laws of what holds of each element of a list.
use Rattle.std.specs.Prelude.{ℕ, zero, suc, ◌<◌, List, [], ◌∷◌, ◌++◌, length, take, drop, get_or}
use Rattle.std.proofs.Common.{arith}
use Rattle.images.specs.Fits.{All}

module _ {A : Type 0} (P : A → Type 0) where
  pub all_at : (l : List A) (k : ℕ) (d : A) → All P l → k < length l → P (get_or l k d)
  all_at [] k d h g = absurd (omega arith)
  all_at (x ∷ rest) zero d h g = h.0
  all_at (x ∷ rest) (suc k) d h g = all_at rest k d h.1 (omega arith)

  pub all_take : (n : ℕ) (l : List A) → All P l → All P (take n l)
  all_take zero l h = tt
  all_take (suc n) [] h = tt
  all_take (suc n) (x ∷ rest) h = (h.0, all_take n rest h.1)

  pub all_drop : (n : ℕ) (l : List A) → All P l → All P (drop n l)
  all_drop zero l h = h
  all_drop (suc n) [] h = tt
  all_drop (suc n) (x ∷ rest) h = all_drop n rest h.1

  pub all_append : (a b : List A) → All P a → All P b → All P (a ++ b)
  all_append [] b h g = g
  all_append (x ∷ rest) b h g = (h.0, all_append rest b h.1 g)
