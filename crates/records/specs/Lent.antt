-- What lending rows adds to a call on records: it is refused where there are fewer rows than records, and which rows it
-- works on.
use Rattle.std.specs.Prelude.{ℕ, List, length}
use Rattle.refusal.specs.Cases.{if_less}
use Rattle.thread.specs.declared.ThreadRecord.{ThreadRecord}
use Rattle.rows.specs.Table.{Out, out}

-- The call where there is a row for each record; else the refusal, with the records as they were.
unfoldable pub within : {A : Type 0} → List (List ℕ) → List ThreadRecord → A → Out A → Out A
within rows t few call = if_less (length rows) (length t) (out few t) call

-- How many rows a call works on: one for each record, none where there are fewer rows than records.
unfoldable pub used : List (List ℕ) → List ThreadRecord → ℕ
used rows t = if_less (length rows) (length t) 0 (length t)
