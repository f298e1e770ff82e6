-- The rank of a thread in its table: how many records have a lesser tree key.
use Rattle.std.specs.Prelude.{List, ℕ, zero, suc, ◌+◌, length, Result, Ok, Err}
use Rattle.std.specs.declared.cmp.Ordering.{Ordering}
use Rattle.std.specs.declared.cmp.Ordering.TheVariants.{Less, Equal, Greater}
use Rattle.order.specs.Order.{compare_parts}
use Rattle.thread.specs.declared.ThreadRecord.{ThreadRecord}
use Rattle.thread.specs.TreeKey.{parts}
use Rattle.rows.specs.Table.{key_at}
use Rattle.thread.specs.declared.TreeKey.{TreeKey}
use Rattle.refusal.specs.declared.Damaged.{Damaged}

-- 1 where the key that was read is less than these parts.
abbrev pub one : Ordering → ℕ
one Less = 1
one Equal = 0
one Greater = 0

-- The same of a key as it was read.
abbrev pub lesser : Result TreeKey Damaged → List ℕ → ℕ
lesser (Err _) p = 0
lesser (Ok k) p = one (compare_parts (parts k) p)

-- How many of the first n records have a key less than these parts.
unfoldable pub tally : List ThreadRecord → List ℕ → ℕ → ℕ
tally t p zero = 0
tally t p (suc n) = lesser (key_at t n) p + tally t p n

-- The rank of a key as it was read.
abbrev pub rank_of : List ThreadRecord → Result TreeKey Damaged → ℕ
rank_of t (Err _) = 0
rank_of t (Ok k) = tally t (parts k) (length t)

-- The rank of a thread.
unfoldable pub rank : List ThreadRecord → ℕ → ℕ
rank t i = rank_of t (key_at t i)
