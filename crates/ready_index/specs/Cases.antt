-- Going by what a call answered. The functions stay shut in proofs of code, which go by the laws in CasesLaws.
use Rattle.std.specs.Prelude.{List, Option, Result, Ok, Err, ℕ}
use Rattle.thread.specs.declared.Links.{Links}
use Rattle.thread.specs.declared.ThreadRecord.{ThreadRecord}
use Rattle.ready_index.specs.declared.Way.{Way}
use Rattle.ready_index.specs.declared.Way.TheVariants as way
use Rattle.ready_index.specs.declared.Sought.{Sought}
use Rattle.ready_index.specs.declared.Sought.TheVariants as sought
use Rattle.rows.specs.Table.{Out, out}
use Rattle.refusal.specs.declared.Damaged.{Damaged}

-- In each, what to do where the answer is Damaged stands first. Of the table as it is left, as in crate rows: a refusal
-- keeps the stores that were made.
unfoldable pub on_rooted : {A : Type 0} → Out (Result (Option ℕ) Damaged) → (List ThreadRecord → A)
    → (Option ℕ → List ThreadRecord → A) → A
on_rooted (out (Ok l) t) a f = f l t
on_rooted (out (Err _) t) a f = a t

-- Damaged, equal, to the left, to the right.
unfoldable pub on_way : {A : Type 0} → Way → A → A → (Option ℕ → A) → (Option ℕ → A) → A
on_way (way.Left l) a e f g = f l
on_way (way.Right l) a e f g = g l
on_way way.Equal a e f g = e
on_way way.Damaged a e f g = a

-- Damaged, found, to the left, to the right.
unfoldable pub on_sought : {A : Type 0} → Sought → A → (Links → A) → (Option ℕ → A) → (Option ℕ → A) → A
on_sought (sought.Left l) a h f g = f l
on_sought (sought.Right l) a h f g = g l
on_sought (sought.Found l) a h f g = h l
on_sought sought.Damaged a h f g = a
