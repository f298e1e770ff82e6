-- Laws by which a read or a store of one part of a row meets the table's definition: r is what the call gave, s the
-- rows that it left.
use Rattle.std.specs.Prelude.{ℕ, ◌<◌, ◌≤◌, List, [], length, get_or, set, ltb, Result, Ok, Err}
use Rattle.std.proofs.Math.Path.{◌≡◌, refl}
use Rattle.std.proofs.Common.{ap, ◌∙◌, ltb-true, ltb-false}
use Rattle.std.proofs.Math.Bool.{Bool, true, false}
use Rattle.refusal.specs.Answer.{or_damaged, damage}
use Rattle.refusal.specs.declared.Damaged.{Damaged}
use Rattle.thread.specs.declared.ThreadRecord.{ThreadRecord}
use Rattle.codec.specs.Codec.{decoded}
use Rattle.codec.specs.Frame.{RowFramed}
use Rattle.rows.specs.Table.{out, table, reading, storing}
use Rattle.rows.specs.RowTableLaws.{reading_row, reading_none, storing_row, storing_none}
use Rattle.rows.specs.Asked.{answering}
use Rattle.rows.specs.AnswersLaws.{change_told}
use Rattle.rows.specs.Frame.{Framed, framed_as_it_was, framed_row}

-- A number is below the row count or not.
by_place : {A : Type 0} (i n : ℕ) → (i < n → A) → (n ≤ i → A) → A
by_place {A} i n inside outside = go (ltb i n) refl
  where
    go : (b : Bool) → ltb i n ≡ b → A
    go true e = inside (ltb-true i n e)
    go false e = outside (ltb-false i n e)

module _ (rows : List (List ℕ)) (i : ℕ) where
  -- What f gives of the record is read; P says of what was read what the part's own contract says.
  pub part_read : {A : Type 0} {r : Result A Damaged} {P : A → Type 0} (f : ThreadRecord → A)
      → (i < length rows → (a : A) × P a × r ≡ Ok a) → (length rows ≤ i → r ≡ Err damage)
      → ((a : A) → P a → a ≡ f (decoded (get_or rows i [])))
      → or_damaged r ≡ or_damaged (reading (table rows) i (λ x. Ok (f x)) (Err damage))
  part_read f inside outside part =
      ap or_damaged (by_place i (length rows)
      (λ h.
      let k = inside h in
      k.2 ∙ (ap Ok (part k.0 k.1) ∙ reading_row rows i (λ (x : ThreadRecord). Ok (f x)) (Err damage) h))
      (λ h. outside h ∙ reading_none rows i (λ (x : ThreadRecord). Ok (f x)) (Err damage) h))

  -- The record is stored as f makes it; P says of the row w that is stored what the part's own contract says.
  pub part_stored : {r : Result (Unit {0}) Damaged} {s : List (List ℕ)} {P : List ℕ → Type 0}
      (f : ThreadRecord → ThreadRecord) → (i < length rows → (w : List ℕ) × P w × s ≡ set rows i w × r ≡ Ok tt)
      → (length rows ≤ i → s ≡ rows × r ≡ Err damage)
      → ((w : List ℕ) → P w → decoded w ≡ f (decoded (get_or rows i [])))
      → out (or_damaged r) (table s) ≡ answering or_damaged (storing (table rows) i f)
  part_stored f inside outside part =
      change_told (by_place i (length rows)
      (λ h. let k = inside h in rw (k.2, k.3) (storing_row rows i f k.0 h (part k.0 k.1)))
      (λ h. let k = outside h in rw (k.0, k.1) (storing_none rows i f h)))

  pub part_framed : {r : Result (Unit {0}) Damaged} {s : List (List ℕ)} {P : List ℕ → Type 0}
      → (i < length rows → (w : List ℕ) × P w × s ≡ set rows i w × r ≡ Ok tt)
      → (length rows ≤ i → s ≡ rows × r ≡ Err damage)
      → ((w : List ℕ) → P w → RowFramed (get_or rows i []) w) → Framed rows s
  part_framed inside outside part =
      by_place i (length rows)
      (λ h. let k = inside h in rw k.2 (framed_row rows i k.0 (part k.0 k.1)))
      (λ h. let k = outside h in rw k.0 (framed_as_it_was rows))
