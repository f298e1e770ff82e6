-- What a call on one tree or one list asks before anything else, in document 01's order: the table, then the thread's
-- number. `refuse` says what a refusal is by its number, and what the call itself gives stands last.
use Rattle.std.specs.Prelude.{ℕ, List, length}
use Rattle.refusal.specs.Answer.{Answer, refused, bad_table, no_thread}
use Rattle.refusal.specs.Cases.{if_less}
use Rattle.thread.specs.declared.ThreadRecord.{ThreadRecord}
use Rattle.rows.specs.Table.{Out, out, max_records}

-- More than 4,096 records are BadTable.
unfoldable pub asked_table : {A : Type 0} → List ThreadRecord → (ℕ → A) → A → A
asked_table t refuse call = if_less max_records (length t) (refuse bad_table) call

-- Then a number that is not below the record count is NoThread.
unfoldable pub asked : {A : Type 0} → List ThreadRecord → ℕ → (ℕ → A) → A → A
asked t id refuse call = asked_table t refuse (if_less id (length t) call (refuse no_thread))

-- A refusal that leaves the table as it was.
abbrev pub unchanged : {A : Type 0} → List ThreadRecord → ℕ → Out (Answer A)
unchanged t n = out (refused n) t

-- The answer put through f, beside the table as it is left.
unfoldable pub answering : {A B : Type 0} → (A → B) → Out A → Out B
answering f (out a t) = out (f a) t
