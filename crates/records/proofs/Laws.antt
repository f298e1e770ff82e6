-- Laws of the copying: one more row or record copied, all copied, what a call on the rows leaves of the records and of
-- the rows.
use Rattle.std.proofs.Common.{◌≡◌, ℕ, ◌+◌, ◌-◌, ◌<◌, ◌≤◌, List, [], ◌∷◌, ◌++◌, length, get_or, set, take, drop}
use Rattle.std.proofs.Common.{refl, sym, ap, ◌∙◌, zero-le, add-one, arith, take_all, take-suc, take-suc-set}
use Rattle.std.proofs.Common.{take_at, drop_at}
use Rattle.std.proofs.lemmas.List.{map-append}
use borrow.Rule.Slice.PartMut.{post_of, Post-is}
use Rattle.refusal.specs.Cases.{less, not_less}
use Rattle.thread.specs.declared.ThreadRecord.{ThreadRecord}
use Rattle.codec.specs.Codec.{decoded}
use Rattle.rows.specs.Table.{Out, out, table}
use Rattle.rows.specs.RowTableLaws.{table_length}
use Rattle.arbitration.specs.declared.CpuWindow.{CpuWindow}
use Rattle.queue.specs.RunQueue.{CpuRunQueue}
use Rattle.lent_selection.specs.Early.{Early, early_rows}
use Rattle.records.specs.Lent.{within, used}

module _ (t : List ThreadRecord) (rows : List (List ℕ)) (i : ℕ) where
  pub row_copied : (w : List ℕ) (d : ThreadRecord) → i < length rows → i < length t → table (take i rows) ≡ take i t
      → decoded w ≡ get_or t i d
      → table (take (i + 1) (set rows i w)) ≡ take (i + 1) t
  unfolding table
  row_copied w d h k e p =
      rw (
        add-one i,
        take-suc-set rows i w h,
        take-suc t i d k,
        map-append decoded (take i rows) (w ∷ []),
        e,
        p,
      ) refl

  pub record_copied : (r : ThreadRecord) → i < length t → i < length rows → take i t ≡ table (take i rows)
      → r ≡ decoded (get_or rows i [])
      → take (i + 1) (set t i r) ≡ table (take (i + 1) rows)
  unfolding table
  record_copied r h k e p =
      rw (
        add-one i,
        take-suc-set t i r h,
        take-suc rows i [] k,
        map-append decoded (take i rows) (get_or rows i [] ∷ []),
        e,
        p,
      ) refl

  pub all_copied : length rows ≤ i → length t ≤ i → table (take i rows) ≡ take i t → table rows ≡ t
  all_copied h k e = ap table (sym (take_all i rows h)) ∙ e ∙ take_all i t k

-- The rows that a call works on, and those that it leaves.
module _ (rows : List (List ℕ)) (t : List ThreadRecord) where
  none_used : length rows < length t → 0 ≡ used rows t
  unfolding used
  none_used h = less _ _ _ _ h refl

  all_used : length t ≤ length rows → length t ≡ used rows t
  unfolding used
  all_used h = not_less _ _ _ _ h refl

  pub none_worked : length rows < length t → table (take (used rows t) rows) ≡ take (used rows t) t
  unfolding table
  none_worked h = rw (sym (none_used h)) refl

  module _ (part : List (List ℕ)) (m : length part ≡ length t) (h : length t ≤ length rows) where
    pub rest_kept : drop (used rows t) (part ++ post_of 0 (length t - 0) rows) ≡ drop (used rows t) rows
    rest_kept =
        rw (sym (all_used h)) (drop_at part (post_of 0 (length t - 0) rows) (length t) m
        ∙ Post-is 0 (length t) rows zero-le)

    pub part_left : {s : List ThreadRecord} → s ≡ table part
        → table (take (used rows t) (part ++ post_of 0 (length t - 0) rows)) ≡ take (used rows t) s
    part_left {s} e =
        let fits : length s ≤ length t = omega (arith, ap length e, table_length part, m) in
        rw (sym (all_used h), take_at part (post_of 0 (length t - 0) rows) (length t) m)
        (sym e ∙ sym (take_all (length t) s fits))

-- What a call leaves of records and rows, and with it what it leaves of the queue's words.
pub and_of_queue : {A B C D : Type 0} → A × (B × C) → D → A × (B × (C × D))
and_of_queue (a, (b, c)) d = (a, (b, (c, d)))

-- A selection that is refused before it looks at anything, of the rows that hold the records.
pub early_kept : {B : Type 0} {b c : B} {t : List ThreadRecord} {s : List (List ℕ)} {w : CpuWindow} {q : CpuRunQueue}
    → length s ≡ length t → (Early s w q → c ≡ b) → Early t w q → c ≡ b
early_kept e f x = f (early_rows e x)

-- The two ways through a call: refused for want of rows, with records and rows as they were; and the records copied to
-- the first rows, the core's call made on these, and the records copied back.
module _ {A : Type 0} (rows : List (List ℕ)) (t : List ThreadRecord) (few : A) where
  pub too_few : (call : Out A) → length rows < length t
      → (out few t ≡ within rows t few call)
      × ((drop (used rows t) rows ≡ drop (used rows t) rows) × (table (take (used rows t) rows) ≡ take (used rows t) t))
  unfolding within
  too_few call h = (less _ _ _ _ h refl, (refl, none_worked rows t h))

  pub called : (f : List ThreadRecord → Out A) (part₀ part : List (List ℕ)) {a : A} {s : List ThreadRecord}
      → length t ≤ length rows → table part₀ ≡ t → length part ≡ length part₀ → out a (table part) ≡ f (table part₀)
      → s ≡ table part
      → (out a s ≡ within rows t few (f t))
      × ((drop (used rows t) (part ++ post_of 0 (length t - 0) rows) ≡ drop (used rows t) rows)
      × (table (take (used rows t) (part ++ post_of 0 (length t - 0) rows)) ≡ take (used rows t) s))
  unfolding within
  called f part₀ part {a} h copied same call back =
      let m : length part ≡ length t = same ∙ sym (table_length part₀) ∙ ap length copied in (
        not_less _ _ _ _ h (ap (λ (l : List ThreadRecord). out a l) back ∙ call ∙ ap f copied),
        (rest_kept rows t part m h, part_left rows t part m h back),
      )
