-- Epochs, periods and deadlines: document 01's "An epoch is a time divided by a period, rounded down".
use Rattle.std.specs.Prelude.{ℕ, ◌+◌, ◌-◌, ◌%◌, min, max, Bool, true, ltb, Option, Some, None}
use Rattle.refusal.specs.Cases.{if_less}

-- Whether an epoch is later than the one before; none is before every epoch (`is_none_or(|previous| epoch >
-- previous)`) (SPECIFICATION 1.1).
unfoldable pub rises : Option ℕ → ℕ → Bool
rises None e = true
rises (Some last) e = ltb last e

-- The start of the period that holds a reading (SPECIFICATION 1.1).
unfoldable pub period_start : ℕ → ℕ → ℕ
period_start now period = now - now % period

-- What an interval charges: only from the start of the period that holds its end (SPECIFICATION 1.3).
unfoldable pub charge_of : ℕ → ℕ → ℕ → ℕ
charge_of start end period = end - max start (period_start end period)

-- The greatest u64.
abbrev pub max_time : ℕ
max_time = 18446744073709551615

-- The sum, or none where it does not fit a u64 (SPECIFICATION 1.2).
unfoldable pub checked_add : ℕ → ℕ → Option ℕ
checked_add a b = if_less max_time (a + b) None (Some (a + b))

-- The end of the period that holds a reading, or none where it does not fit (SPECIFICATION 1.2).
unfoldable pub period_end : ℕ → ℕ → Option ℕ
period_end now period = checked_add (period_start now period) period

-- The earlier of two deadlines; none is later than any.
unfoldable pub earliest_of : Option ℕ → Option ℕ → Option ℕ
earliest_of None b = b
earliest_of (Some a) None = Some a
earliest_of (Some a) (Some b) = Some (min a b)

-- By whether there is a deadline, and which.
unfoldable pub on_deadline : {A : Type 0} → Option ℕ → A → (ℕ → A) → A
on_deadline None a f = a
on_deadline (Some t) a f = f t
