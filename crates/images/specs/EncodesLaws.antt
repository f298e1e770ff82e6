-- Laws of the test of rows: from row to row until one fails.
use Rattle.std.specs.Prelude.{ℕ, suc, ◌+◌, ◌<◌, ◌≤◌, ◌≡◌, refl, Bool, true, false, not, drop, get_or}
use native.Mathlib.Omega.{arith}
use Rattle.std.proofs.Common.{add-one, drop_of_length-le, drop-cons}
use Rattle.std.proofs.Math.Path.{sym}
use mathlib.Core.List.{List, []}
use Rattle.std.proofs.Math.ListN.{length}
use Rattle.std.proofs.lemmas.Bool.{not-true, not-false}
use Rattle.refusal.specs.Cases.{choose}
use Rattle.images.specs.BytesLaws.{rows_length, row_at}
use Rattle.images.specs.Encodes.{all_from, queue_row_encodes, queue_encodes, record_at, table_encodes}

pub all_rows : (rows : List (List ℕ)) → all_from record_at 0 rows ≡ table_encodes rows
unfolding table_encodes
all_rows rows = refl

pub all_queue_rows : (rows : List (List ℕ)) → all_from queue_row_encodes 0 rows ≡ queue_encodes rows
unfolding queue_encodes
all_queue_rows rows = refl

module _ (test : ℕ → List ℕ → Bool) (k : ℕ) (rows : List (List ℕ)) {all : Bool}
    (so_far : all_from test k (drop k rows) ≡ all) (n : ℕ) (size : length rows ≡ n) where
  module _ {r : Bool} {row : List ℕ} (is : r ≡ test k row) (its : row ≡ get_or rows k []) (inside : k < n) where
    here : all ≡ choose r (all_from test (suc k) (drop (suc k) rows)) false
    unfolding all_from
    here =
        let below : k < length rows = omega arith in
        sym (rw (drop-cons rows k [] below, ← its, ← is) at so_far)

    pub row_fails : not r ≡ true → false ≡ all
    unfolding choose
    row_fails t = sym (rw (not-true r t) at here)

    pub row_passes : not r ≡ false → all_from test (k + 1) (drop (k + 1) rows) ≡ all
    unfolding choose
    row_passes t = rw (add-one k) (sym (rw (not-false r t) at here))

  pub rows_pass : n ≤ k → true ≡ all
  unfolding all_from
  rows_pass h =
      let behind : length rows ≤ k = omega arith in
      rw (drop_of_length-le rows behind) at so_far

pub ruleset testings = (all_rows, all_queue_rows, row_fails, row_passes, rows_pass, rows_length, row_at)
