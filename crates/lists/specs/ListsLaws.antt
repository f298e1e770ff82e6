-- Laws by which the functions over rows meet the definitions: r is what the call gave, x what its contract says of it.
use Rattle.std.specs.Prelude.{ℕ, ◌<◌, ◌≤◌, ◌%◌, ◌≡◌, Bool, List, [], length, get_or, set, Option, Result, Ok, Err}
use Rattle.std.proofs.Math.Path.{refl}
use Rattle.std.proofs.Common.{sym, ap}
use Rattle.refusal.specs.Answer.{Answer, number_of, by_number, or_damaged}
use Rattle.refusal.specs.declared.Refusal.{Refusal}
use Rattle.thread.specs.declared.QueueLinks.{QueueLinks}
use Rattle.thread.specs.declared.QueueMembership.{QueueMembership}
use Rattle.thread.specs.declared.ThreadRecord.{ThreadRecord}
use Rattle.thread.specs.Membership.{is_unqueued}
use Rattle.thread.specs.Records.{with_queue_links}
use Rattle.codec.specs.Codec.{word, row_words, link_from, parameters_of, runtime_of, links_of, queue_links_of, decoded}
use Rattle.codec.specs.Codec.{cpu_word}
use Rattle.codec.specs.RowLaws.{by_words, next_stored, previous_stored}
use Rattle.rows.specs.Table.{Out, out, after, table, record_at, queue_links_at, set_queue_links}
use Rattle.rows.specs.Asked.{answering}
use Rattle.rows.specs.AnswersLaws.{same_change}
use Rattle.rows.specs.TableCases.{on_record, on_queue_links}
use Rattle.rows.specs.RowTableLaws.{record_inside, record_outside, queue_links_inside, queue_links_outside}
use Rattle.rows.specs.RowTableLaws.{set_queue_links_inside}
use Rattle.lists.specs.Checks.{assigned_to}
use Rattle.lists.specs.Lists.{on_answer, on_out, with_next, with_previous, set_next, set_previous}
use Rattle.refusal.specs.declared.Damaged.{Damaged}

module _ {B : Type 0} {y : B} {r : Result ℕ Refusal} {x : Answer ℕ} (g f : ℕ → B) where
  pub allowed : {n : ℕ} → by_number r ≡ x → r ≡ Ok n → y ≡ f n → y ≡ on_answer x g f
  unfolding on_answer
  allowed e m h = rw (sym e, m) h

  pub turned_down_lem : {n : Refusal} → by_number r ≡ x → r ≡ Err n → y ≡ g (number_of n)
      → y ≡ on_answer x g f
  unfolding on_answer
  turned_down_lem e m h = rw (sym e, m) h

pub went_out : {A B : Type 0} {y : B} {r : A} {t : List ThreadRecord} {x : Out A} (f : A → List ThreadRecord → B)
    → out r t ≡ x → y ≡ f r t → y ≡ on_out x f
unfolding on_out
went_out f e h = rw (sym e) h

-- The table that a store left is the table after it.
pub left_by_lem : (r : Result (Unit {0}) Damaged) (x : Out (Result (Unit {0}) Damaged)) {t : List ThreadRecord}
    → out (or_damaged r) t ≡ answering or_damaged x → t ≡ after x
left_by_lem r x {t} e = ap after (same_change r t x e)

-- The table after a store that stands for part of an answer.
pub answered : {A : Type 0} (a : A) {t x : List ThreadRecord} → t ≡ x → out a t ≡ out a x
answered a e = ap (out a) e

-- Going by the record of a row, where only part of the row is read.
module _ {A : Type 0} {y : A} (rows : List (List ℕ)) (i : ℕ) (a : A) (f : ThreadRecord → A) where
  pub row_inside : i < length rows → y ≡ f (decoded (get_or rows i [])) → y ≡ on_record (record_at (table rows) i) a f
  unfolding on_record
  row_inside h e = rw (sym (record_inside rows i h refl)) e

  pub row_outside : length rows ≤ i → y ≡ a → y ≡ on_record (record_at (table rows) i) a f
  unfolding on_record
  row_outside h e = rw (sym (record_outside rows i h)) e

pub unqueued_row : (w : List ℕ) {l : QueueLinks} {r : Bool} → l ≡ queue_links_of w → r ≡ is_unqueued l.membership
    → r ≡ is_unqueued (decoded w).queue_links.membership
unfolding decoded
unqueued_row w e h = rw (sym e) h

pub assigned_row : (w : List ℕ) (m : QueueMembership) {n : ℕ} {r : Bool} → n ≡ word w cpu_word % 256
    → r ≡ assigned_to m (record { 0 = n }) → r ≡ assigned_to m (decoded w).cpu
unfolding decoded
assigned_row w m e h = rw (sym e) h

-- Two words stored are one link, and no other part of the record.
pub next_stored_lem : (r : List ℕ) (l : Option ℕ) (a : List ℕ) → length r ≡ row_words
    → link_from (word a 0) (word a 1) ≡ l
    → decoded (next_stored r a) ≡ with_queue_links (with_next (decoded r).queue_links l)
    (decoded r)
unfolding decoded parameters_of runtime_of links_of queue_links_of
next_stored_lem r l a size e =
    by_words row_words (λ (r : List ℕ). decoded (next_stored r a)
    ≡ with_queue_links (with_next (decoded r).queue_links l) (decoded r))
    (λ x0 x1 x2 x3 x4 x5 x6 x7 x8 x9 x10 x11 x12 x13 x14 x15 x16 x17 x18 x19 x20 x21 x22 x23 x24 x25 x26 x27 x28 x29 x30
    x31. rw (e))
    r size

pub previous_stored_lem : (r : List ℕ) (l : Option ℕ) (a : List ℕ) → length r ≡ row_words
    → link_from (word a 0) (word a 1) ≡ l
    → decoded (previous_stored r a) ≡ with_queue_links (with_previous (decoded r).queue_links l)
    (decoded r)
unfolding decoded parameters_of runtime_of links_of queue_links_of
previous_stored_lem r l a size e =
    by_words row_words (λ (r : List ℕ). decoded (previous_stored r a)
    ≡ with_queue_links (with_previous (decoded r).queue_links l) (decoded r))
    (λ x0 x1 x2 x3 x4 x5 x6 x7 x8 x9 x10 x11 x12 x13 x14 x15 x16 x17 x18 x19 x20 x21 x22 x23 x24 x25 x26 x27 x28 x29 x30
    x31. rw (e))
    r size

-- The table with such a row in it.
module _ (rows : List (List ℕ)) (i : ℕ) where
  links_of_row : i < length rows
      → Ok (decoded (get_or rows i [])).queue_links ≡ queue_links_at (table rows) i
  unfolding decoded
  links_of_row h = queue_links_inside rows i h refl

  relinked : (l : QueueLinks) (w : List ℕ) → i < length rows
      → decoded w ≡ with_queue_links l (decoded (get_or rows i []))
      → table (set rows i w) ≡ after (set_queue_links (table rows) i l)
  relinked l w h e = ap after (set_queue_links_inside rows i l w h e)

  pub next_set : (next : Option ℕ) (w : List ℕ) → i < length rows
      → decoded w ≡ with_queue_links (with_next (decoded (get_or rows i [])).queue_links next)
      (decoded (get_or rows i []))
      → table (set rows i w) ≡ set_next (table rows) i next
  unfolding set_next on_queue_links
  next_set next w h e =
      rw (sym (links_of_row h)) (relinked (with_next (decoded (get_or rows i [])).queue_links next) w h e)

  pub next_not_set : (next : Option ℕ) → length rows ≤ i → table rows ≡ set_next (table rows) i next
  unfolding set_next on_queue_links
  next_not_set next h = rw (sym (queue_links_outside rows i h))

  pub previous_set : (previous : Option ℕ) (w : List ℕ) → i < length rows
      → decoded w ≡ with_queue_links (with_previous (decoded (get_or rows i [])).queue_links previous)
      (decoded (get_or rows i []))
      → table (set rows i w) ≡ set_previous (table rows) i previous
  unfolding set_previous on_queue_links
  previous_set previous w h e =
      rw (sym (links_of_row h)) (relinked (with_previous (decoded (get_or rows i [])).queue_links previous) w h e)

  pub previous_not_set : (previous : Option ℕ) → length rows ≤ i → table rows ≡ set_previous (table rows) i previous
  unfolding set_previous on_queue_links
  previous_not_set previous h = rw (sym (queue_links_outside rows i h))

pub ruleset row_stores = (next_set, next_not_set, previous_set, previous_not_set)

pub ruleset row_reads = (row_inside, row_outside)

pub ruleset listings = (allowed, turned_down_lem, went_out, left_by_lem, answered)
