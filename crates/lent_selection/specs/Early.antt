-- What a selection is refused for before it looks at anything, and that this leaves every word.
use Rattle.std.specs.Prelude.{◌≤◌, ◌<◌, ◌≡◌, Bool, true, false, not, List, length}
use Rattle.std.proofs.Common.{sym, ◌∙◌, arith}
use Rattle.refusal.specs.Cases.{never}
use Rattle.arbitration.specs.declared.CpuWindow.{CpuWindow}
use Rattle.window_config.specs.Config.{sound_config}
use Rattle.rows.specs.Table.{max_records}
use Rattle.queue.specs.RunQueue.{CpuRunQueue}

-- More than 4,096 records (BadTable), a window that is not sound (BadConfig), a queue that halted earlier (Halted).
-- (SPECIFICATION 11.2).
pub data Early {A : Type 0} (t : List A) (w : CpuWindow) (q : CpuRunQueue) : Type 0 where
  too_many : max_records < length t → Early t w q
  not_sound : sound_config w.config ≡ false → Early t w q
  halted_before : q.halted ≡ true → Early t w q

-- Rows are too many where the records that they hold are.
pub early_rows : {A B : Type 0} {t : List A} {s : List B} {w : CpuWindow} {q : CpuRunQueue} → length s ≡ length t
    → Early t w q → Early s w q
early_rows e (too_many k) = too_many (omega (arith, e, k))
early_rows e (not_sound k) = not_sound k
early_rows e (halted_before k) = halted_before k

-- Past the three there is none of them.
pub not_early : {A B : Type 0} (b c : B) (t : List A) (w : CpuWindow) (q : CpuRunQueue) {x y : Bool}
    → length t ≤ max_records → x ≡ sound_config w.config → not x ≡ false → y ≡ q.halted → y ≡ false → Early t w q
    → c ≡ b
not_early b c t w q l s u h v (too_many k) = absurd (omega arith)
not_early b c t w q {x} l s u h v (not_sound k) = go x (s ∙ k) u
  where
    go : (z : Bool) → z ≡ false → not z ≡ false → c ≡ b
    go true e f = never cc
    go false e f = never cc
not_early b c t w q l s u h v (halted_before k) = let z : true ≡ false = sym k ∙ sym h ∙ v in never cc
