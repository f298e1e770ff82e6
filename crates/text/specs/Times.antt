-- A time of nanoseconds, written in milliseconds.
use Rattle.std.specs.Prelude.{ℕ, zero, suc, ◌+◌, ◌*◌, ◌/◌, ◌%◌, List, [], ◌∷◌, ◌++◌}
use Rattle.refusal.specs.Cases.{if_equal}
use Rattle.text.specs.Writing.{digits_of}

-- The digits behind the point of a number of millionths, so many at most, until nothing is left: there are no zeros at
-- their end.
unfoldable pub fraction_from : ℕ → ℕ → List ℕ
fraction_from zero n = []
fraction_from (suc k) n = if_equal n 0 [] ((48 + n / 100000 % 10) ∷ fraction_from k (n % 100000 * 10))

-- With the point; nothing where there is no fraction.
unfoldable pub pointed : ℕ → List ℕ
pointed n = if_equal n 0 [] (46 ∷ fraction_from 6 n)

unfoldable pub milliseconds_of : ℕ → List ℕ
milliseconds_of n = digits_of (n / 1000000) ++ pointed (n % 1000000)
