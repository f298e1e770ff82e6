-- Laws by which a load or a store on rows meets the table's definition: one for a number inside the table and one for a
-- number outside.
use Rattle.std.specs.Prelude.{ℕ, zero, suc, ◌<◌, ◌≤◌, ◌≡◌, refl, length, get_or, set, Ok, Err}
use Rattle.refusal.specs.Answer.{damage}
use Rattle.std.proofs.Common.{sym, ◌∙◌}
use Rattle.std.proofs.Math.Path.{ap}
use mathlib.Core.List.{List, [], ◌∷◌, map}
use Rattle.std.proofs.lemmas.List.{length-map}
use Rattle.std.proofs.Math.ListN.{get_or-map}
use borrow.Author.Tests.{lt-ltb, le-ltb}
use Rattle.refusal.specs.Cases.{choose, if_less}
use Rattle.algorithms.specs.declared.PolicyRuntime.{PolicyRuntime}
use Rattle.thread.specs.declared.QueueLinks.{QueueLinks}
use Rattle.thread.specs.declared.ThreadRecord.{ThreadRecord}
use Rattle.thread.specs.Records.{with_runtime}
use Rattle.thread.specs.Records.{with_queue_links}
use Rattle.codec.specs.Codec.{decoded, queue_links_of}
use Rattle.rows.specs.Table.{out, table, record_of, changed, reading, storing, queue_links_at, record_at}
use Rattle.rows.specs.Table.{set_queue_links, set_runtime}

map_set : (rows : List (List ℕ)) (i : ℕ) (w : List ℕ)
    → map decoded (set rows i w) ≡ set (map decoded rows) i (decoded w)
map_set [] i w = refl
map_set (x ∷ rows) zero w = refl
map_set (x ∷ rows) (suc i) w = ap (λ (t : List ThreadRecord). decoded x ∷ t) (map_set rows i w)

-- As many records as rows.
pub table_length : (rows : List (List ℕ)) → length (table rows) ≡ length rows
unfolding table
table_length rows = length-map rows decoded

module _ (rows : List (List ℕ)) (i : ℕ) where
  table_record : record_of (table rows) i ≡ decoded (get_or rows i [])
  unfolding table record_of
  table_record = get_or-map decoded rows i []

  table_set : (w : List ℕ) → table (set rows i w) ≡ set (table rows) i (decoded w)
  unfolding table
  table_set w = map_set rows i w

  table_changed : (f : ThreadRecord → ThreadRecord) (w : List ℕ) → decoded w ≡ f (decoded (get_or rows i []))
      → table (set rows i w) ≡ changed (table rows) i f
  unfolding changed
  table_changed f w e = table_set w ∙ ap (set (table rows) i) (e ∙ ap f (sym table_record))

  pub reading_row : {A : Type 0} (f : ThreadRecord → A) (d : A) → i < length rows
      → f (decoded (get_or rows i [])) ≡ reading (table rows) i f d
  unfolding reading if_less choose
  reading_row f d h = rw (table_length rows, lt-ltb i (length rows) h, table_record)

  pub reading_none : {A : Type 0} (f : ThreadRecord → A) (d : A) → length rows ≤ i → d ≡ reading (table rows) i f d
  unfolding reading if_less choose
  reading_none f d h = rw (table_length rows, le-ltb i (length rows) h)

  pub storing_row : (f : ThreadRecord → ThreadRecord) (w : List ℕ) → i < length rows
      → decoded w ≡ f (decoded (get_or rows i []))
      → out (Ok tt) (table (set rows i w)) ≡ storing (table rows) i f
  unfolding storing if_less choose
  storing_row f w h e = rw (table_length rows, lt-ltb i (length rows) h, table_changed f w e)

  pub storing_none : (f : ThreadRecord → ThreadRecord) → length rows ≤ i
      → out (Err damage) (table rows) ≡ storing (table rows) i f
  unfolding storing if_less choose
  storing_none f h = rw (table_length rows, le-ltb i (length rows) h)

  pub queue_links_inside : {l : QueueLinks} → i < length rows → l ≡ queue_links_of (get_or rows i [])
      → Ok l ≡ queue_links_at (table rows) i
  unfolding queue_links_at decoded
  queue_links_inside h e =
      rw e (reading_row (λ (r : ThreadRecord). Ok r.queue_links) (Err damage) h)

  pub queue_links_outside : length rows ≤ i → (Err damage) ≡ queue_links_at (table rows) i
  unfolding queue_links_at
  queue_links_outside h = reading_none (λ
      (r : ThreadRecord). Ok r.queue_links) (Err damage) h

  pub record_inside : {r : ThreadRecord} → i < length rows → r ≡ decoded (get_or rows i [])
      → Ok r ≡ record_at (table rows) i
  unfolding record_at
  record_inside h e = rw e (reading_row (λ (r : ThreadRecord). Ok r) (Err damage) h)

  pub record_outside : length rows ≤ i → (Err damage) ≡ record_at (table rows) i
  unfolding record_at
  record_outside h = reading_none (λ (r : ThreadRecord). Ok r) (Err damage) h

  pub set_queue_links_inside : (l : QueueLinks) (w : List ℕ) → i < length rows
      → decoded w ≡ with_queue_links l (decoded (get_or rows i []))
      → out (Ok tt) (table (set rows i w)) ≡ set_queue_links (table rows) i l
  unfolding set_queue_links
  set_queue_links_inside l = storing_row (with_queue_links l)

  pub set_runtime_inside : (x : PolicyRuntime) (w : List ℕ) → i < length rows
      → decoded w ≡ with_runtime x (decoded (get_or rows i []))
      → out (Ok tt) (table (set rows i w)) ≡ set_runtime (table rows) i x
  unfolding set_runtime
  set_runtime_inside x = storing_row (with_runtime x)
