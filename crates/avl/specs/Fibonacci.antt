-- The Fibonacci numbers, F(1) = F(2) = 1.
use Rattle.std.specs.Prelude.{ℕ, zero, suc, ◌+◌}

-- Each is the sum of the two before it.
unfoldable pub fibonacci : ℕ → ℕ
fibonacci zero = 0
fibonacci (suc zero) = 1
fibonacci (suc (suc n)) = fibonacci (suc n) + fibonacci n
