-- Laws by which a call asks on rows what its definition asks of the table: r is what `asked` gave.
use Rattle.std.specs.Prelude.{ℕ, ◌<◌, ◌≤◌, refl, Bool, List, ltb, length, Result, Ok, Err}
use Rattle.std.proofs.Math.Path.{◌≡◌, ap}
use Rattle.std.proofs.Common.{sym, ◌∙◌}
use Rattle.std.proofs.Math.Bool.{true, false}
use borrow.Author.Tests.{lt-ltb, le-ltb}
use Rattle.refusal.specs.declared.Refusal.{Refusal}
use Rattle.refusal.specs.Answer.{Answer, value, refused, number_of, bad_table, no_thread, by_number}
use Rattle.refusal.specs.Cases.{never, choose, if_less}
use Rattle.thread.specs.declared.ThreadRecord.{ThreadRecord}
use Rattle.rows.specs.Table.{Out, out, table, max_records}
use Rattle.rows.specs.RowTableLaws.{table_length}
use Rattle.rows.specs.Asked.{asked_table, asked, answering}

-- The record count is the count of rows.
module _ {A : Type 0} {y : A} (a b : A) (n : ℕ) (rows : List (List ℕ)) where
  pub below_count : n < length rows → y ≡ a → y ≡ if_less n (length (table rows)) a b
  unfolding if_less choose
  below_count p h = rw (table_length rows, lt-ltb n (length rows) p) h

  pub not_below_count : length rows ≤ n → y ≡ b → y ≡ if_less n (length (table rows)) a b
  unfolding if_less choose
  not_below_count p h = rw (table_length rows, le-ltb n (length rows) p) h

module _ {A : Type 0} {y : A} (refuse : ℕ → A) (call : A) (rows : List (List ℕ)) where
  pub table_refused : max_records < length rows → y ≡ refuse bad_table → y ≡ asked_table (table rows) refuse call
  unfolding asked_table
  table_refused p h = below_count (refuse bad_table) call max_records rows p h

  pub table_granted : length rows ≤ max_records → y ≡ call → y ≡ asked_table (table rows) refuse call
  unfolding asked_table
  table_granted p h = not_below_count (refuse bad_table) call max_records rows p h

module _ {A : Type 0} {y : A} {r : Result (Unit {0}) Refusal} (t : List ThreadRecord) (id : ℕ) (refuse : ℕ → A)
    (call : A) where
  pub granted : by_number r ≡ asked t id refused (value tt) → r ≡ (Ok tt) → y ≡ call
      → y ≡ asked t id refuse call
  unfolding asked asked_table if_less choose
  granted e m h = go (ltb max_records (length t)) (ltb id (length t)) (ap by_number (sym m) ∙ e)
    where
      go : (many below : Bool)
          → ◌≡◌ {A = Answer (Unit {0})} (value tt)
          (choose many (refused bad_table) (choose below (value tt) (refused no_thread)))
          → y ≡ choose many (refuse bad_table) (choose below call (refuse no_thread))
      go true below k = never cc
      go false true k = h
      go false false k = never cc

  pub turned_away : {n : Refusal} → by_number r ≡ asked t id refused (value tt) → r ≡ Err n
      → y ≡ refuse (number_of n) → y ≡ asked t id refuse call
  unfolding asked asked_table if_less choose
  turned_away {n} e m h = go (ltb max_records (length t)) (ltb id (length t)) (ap by_number (sym m) ∙ e)
    where
      go : (many below : Bool)
          → ◌≡◌ {A = Answer (Unit {0})} (refused (number_of n))
          (choose many (refused bad_table) (choose below (value tt) (refused no_thread)))
          → y ≡ choose many (refuse bad_table) (choose below call (refuse no_thread))
      go true below k = let same : number_of n ≡ bad_table = cc in h ∙ ap refuse same
      go false true k = never cc
      go false false k = let same : number_of n ≡ no_thread = cc in h ∙ ap refuse same

-- What is asked of a table, by its record count.
module _ {A : Type 0} (t : List ThreadRecord) (refuse : ℕ → A) (call : A) where
  pub table_many : max_records < length t → asked_table t refuse call ≡ refuse bad_table
  unfolding asked_table if_less choose
  table_many h = rw (lt-ltb max_records (length t) h)

  pub table_few : length t ≤ max_records → asked_table t refuse call ≡ call
  unfolding asked_table if_less choose
  table_few h = rw (le-ltb max_records (length t) h)

module _ {A : Type 0} (t : List ThreadRecord) (id : ℕ) (refuse : ℕ → A) (call : A) where
  pub asked_many : max_records < length t → asked t id refuse call ≡ refuse bad_table
  unfolding asked
  asked_many h = table_many t refuse (if_less id (length t) call (refuse no_thread)) h

  pub asked_outside : length t ≤ max_records → length t ≤ id → asked t id refuse call ≡ refuse no_thread
  unfolding asked asked_table if_less choose
  asked_outside h p = rw (le-ltb max_records (length t) h, le-ltb id (length t) p)

  pub asked_within : length t ≤ max_records → id < length t → asked t id refuse call ≡ call
  unfolding asked asked_table if_less choose
  asked_within h p = rw (le-ltb max_records (length t) h, lt-ltb id (length t) p)

-- An answer put through f, where the call left answer and table.
pub answered_by : {A B : Type 0} (f : A → B) {a : A} {w : B} {t : List ThreadRecord} {x : Out A} → out a t ≡ x → w ≡ f a
    → out w t ≡ answering f x
unfolding answering
answered_by f h e = rw (e, sym h) refl

pub ruleset counts = (below_count, not_below_count)

pub ruleset asking = (counts, table_refused, table_granted)
