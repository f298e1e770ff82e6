-- first, contains, insert and remove on a tree by itself: table and number are asked for first, in document 01's order,
-- and what is refused by that changes nothing. Damaged is last, and keeps the stores that were made.
use Rattle.std.specs.Prelude.{ℕ, Bool, List, Option}
use Rattle.refusal.specs.Answer.{Answer, refused, or_damaged}
use Rattle.thread.specs.declared.ThreadRecord.{ThreadRecord}
use Rattle.rows.specs.Table.{Out}
use Rattle.rows.specs.Asked.{asked_table, asked, unchanged, answering}
use Rattle.ready_index.specs.Index.{first, contains, insert, remove}

-- The tree's least thread, or none (`Tree::first`).
unfoldable pub first_call : List ThreadRecord → Option ℕ → Answer (Option ℕ)
first_call t root = asked_table t refused (or_damaged (first t root))

-- Whether the tree holds a thread (`Tree::contains`).
unfoldable pub contains_call : List ThreadRecord → Option ℕ → ℕ → Answer Bool
contains_call t root id = asked t id refused (or_damaged (contains t root id))

-- A thread put into the tree: its root afterwards (`Tree::insert`) (SPECIFICATION 6.4).
unfoldable pub insert_call : List ThreadRecord → Option ℕ → ℕ → Out (Answer (Option ℕ))
insert_call t root id = asked t id (unchanged t) (answering or_damaged (insert t root id))

-- A thread taken out of the tree: its root afterwards (`Tree::remove`).
unfoldable pub remove_call : List ThreadRecord → Option ℕ → ℕ → Out (Answer (Option ℕ))
remove_call t root id = asked t id (unchanged t) (answering or_damaged (remove t root id))
