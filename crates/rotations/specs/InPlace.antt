-- What the way up does to a node whose links are known, and where it stays in its place.
use Rattle.std.specs.Prelude.{List, Bool, true, false, ℕ, ◌+◌, Option, Result, Ok, Err}
use Rattle.refusal.specs.Answer.{damage}
use Rattle.refusal.specs.Cases.{choose, if_less, given}
use Rattle.thread.specs.declared.ThreadRecord.{ThreadRecord}
use Rattle.rows.specs.Table.{Out, out, set_height}
use Rattle.rows.specs.TableCases.{on_made}
use Rattle.rotations.specs.Cases.{on_height}
use Rattle.rotations.specs.Balance.{height, larger, balance}
use Rattle.refusal.specs.declared.Damaged.{Damaged}

-- Neither of two heights is above the other by two or more.
unfoldable pub is_even : ℕ → ℕ → Bool
is_even a b = if_less (b + 1) a false (if_less (a + 1) b false true)

-- The height that sides of these heights give, stored at a node; above 255 it does not fit.
unfoldable pub height_stored : List ThreadRecord → ℕ → ℕ → ℕ → Out (Result ℕ Damaged)
height_stored t i a b =
    given (larger a b)
    (λ m. if_less m 255
    (on_made (set_height t i (m + 1)) (out (Err damage)) (λ t₁. out (Ok i) t₁))
    (out (Err damage) t))

-- A node balanced, where its two links are known beforehand: with even sides its height alone is stored.
unfoldable pub balance_by : List ThreadRecord → ℕ → Option ℕ → Option ℕ → Out (Result ℕ Damaged)
balance_by t i left right =
    on_height (height t left) (out (Err damage) t)
    (λ a. on_height (height t right) (out (Err damage) t)
    (λ b. choose (is_even a b)
    (height_stored t i a b)
    (balance t i)))
