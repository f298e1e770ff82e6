-- Sums that stay in range.
use Rattle.std.specs.Prelude.{ℕ}
use Rattle.refusal.specs.Cases.{if_less}
use Rattle.text.specs.Reading.{most}

-- The number, or the greatest where it is above that.
unfoldable pub saturated : ℕ → ℕ
saturated n = if_less most n most n
