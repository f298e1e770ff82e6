-- How many numbers have a property.
use Rattle.std.specs.Prelude.{Bool, ℕ, zero, suc}
use Rattle.refusal.specs.Cases.{choose}

-- Of the numbers below n.
unfoldable pub count : ℕ → (ℕ → Bool) → ℕ
count zero f = 0
count (suc n) f = choose (f n) (suc (count n f)) (count n f)
