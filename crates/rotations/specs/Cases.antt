-- Going by what a call answered. The functions stay shut in proofs of code, which go by the laws in CasesLaws.
use Rattle.std.specs.Prelude.{List, ℕ, Result, Ok, Err}
use Rattle.thread.specs.declared.ThreadRecord.{ThreadRecord}
use Rattle.rows.specs.Table.{Out, out}
use Rattle.refusal.specs.declared.Damaged.{Damaged}

-- In each, what to do where the answer is Damaged stands first.
unfoldable pub on_height : {A : Type 0} → Result ℕ Damaged → A → (ℕ → A) → A
on_height (Ok h) a f = f h
on_height (Err _) a f = a

-- Of the table as it is left, as in crate rows: a refusal keeps the stores that were made.
unfoldable pub on_turned : {A : Type 0} → Out (Result ℕ Damaged) → (List ThreadRecord → A)
    → (ℕ → List ThreadRecord → A) → A
on_turned (out (Ok i) t) a f = f i t
on_turned (out (Err _) t) a f = a t
