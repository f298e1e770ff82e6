-- The calls on a tree by itself, on any table: what is refused before the queue's forms changes nothing, and every
-- other call is the queue's form of it. What they do to a tree that is in order is in proofs/Calls.antt.
use Rattle.std.specs.Prelude.{◌≡◌, List, ℕ, ◌≤◌, ◌<◌, length, Option}
use Rattle.refusal.specs.Answer.{refused, bad_table, no_thread, or_damaged}
use Rattle.thread.specs.declared.ThreadRecord.{ThreadRecord}
use Rattle.rows.specs.Table.{max_records}
use Rattle.rows.specs.Asked.{unchanged, answering}
use Rattle.rows.specs.AskedLaws.{table_many, table_few, asked_many, asked_outside, asked_within}
use Rattle.ready_index.specs.Index.{first, contains, insert, remove}
use Rattle.ready_index.specs.Calls.{first_call, contains_call, insert_call, remove_call}

-- On any table and root, sound or not.
module _ (t : List ThreadRecord) (l : Option ℕ) where
  -- More than 4,096 records are BadTable, whatever the number is, and nothing changes.
  pub many_refused : (i : ℕ) → max_records < length t
      → (first_call t l ≡ refused bad_table) × (contains_call t l i ≡ refused bad_table)
      × (insert_call t l i ≡ unchanged t bad_table) × (remove_call t l i ≡ unchanged t bad_table)
  unfolding first_call contains_call insert_call remove_call
  many_refused i h = (
    table_many t refused (or_damaged (first t l)) h,
    asked_many t i refused (or_damaged (contains t l i)) h,
    asked_many t i (unchanged t) (answering or_damaged (insert t l i)) h,
    asked_many t i (unchanged t) (answering or_damaged (remove t l i)) h,
  )

  pub first_is : length t ≤ max_records → first_call t l ≡ or_damaged (first t l)
  unfolding first_call
  first_is n = table_few t refused (or_damaged (first t l)) n

  module _ (i : ℕ) (n : length t ≤ max_records) where
    -- Then a number outside of the table is NoThread, and nothing changes.
    pub outside_refused : length t ≤ i
        → (contains_call t l i ≡ refused no_thread) × (insert_call t l i ≡ unchanged t no_thread)
        × (remove_call t l i ≡ unchanged t no_thread)
    unfolding contains_call insert_call remove_call
    outside_refused h = (
      asked_outside t i refused (or_damaged (contains t l i)) n h,
      asked_outside t i (unchanged t) (answering or_damaged (insert t l i)) n h,
      asked_outside t i (unchanged t) (answering or_damaged (remove t l i)) n h,
    )

    -- Every other call is the queue's form of it.
    pub call_is : i < length t
        → (contains_call t l i ≡ or_damaged (contains t l i))
        × (insert_call t l i ≡ answering or_damaged (insert t l i))
        × (remove_call t l i ≡ answering or_damaged (remove t l i))
    unfolding contains_call insert_call remove_call
    call_is h = (
      asked_within t i refused (or_damaged (contains t l i)) n h,
      asked_within t i (unchanged t) (answering or_damaged (insert t l i)) n h,
      asked_within t i (unchanged t) (answering or_damaged (remove t l i)) n h,
    )
