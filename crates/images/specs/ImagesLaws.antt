-- Laws of load and store, by what is asked in order: the length, then whether it encodes.
use Rattle.std.specs.Prelude.{ℕ, ◌≡◌, Bool, true, false, not, List}
use Rattle.std.proofs.Common.{ap, ◌∙◌}
use borrow.Author.Tests.{not-true, not-false}
use Rattle.refusal.specs.Answer.{bad_table}
use Rattle.refusal.specs.Cases.{choose, equal, not_equal}
use Rattle.images.specs.Encodes.{record_encodes, window_encodes}
use Rattle.lent_queue.specs.LentQueue.{queue_rows}
use Rattle.images.specs.Bytes.{rows_of_bytes}
use Rattle.images.specs.Images.{left, accepted, queue_row_words}

module _ {A : Type 0} {y : A} {n : ℕ} (have want number : ℕ) (x : Bool) (new old : A) where
  pub wrong_length : (have ≡ want → ⊥) → n ≡ bad_table → y ≡ old → left n y ≡ accepted have want x number new old
  unfolding accepted
  wrong_length h e f = not_equal _ _ _ _ h (rw (e, f))

  pub not_encoding : {r : Bool} → r ≡ x → not r ≡ true → have ≡ want → n ≡ number → y ≡ old
      → left n y ≡ accepted have want x number new old
  unfolding accepted choose
  not_encoding {r} is t h e f = equal _ _ _ _ h (rw (← is, not-true r t, e, f))

  pub encoding : {r : Bool} → r ≡ x → not r ≡ false → have ≡ want → n ≡ 0 → y ≡ new
      → left n y ≡ accepted have want x number new old
  unfolding accepted choose
  encoding {r} is t h e f = equal _ _ _ _ h (rw (← is, not-false r t, e, f))

-- The test of words that were read.
module _ {r : Bool} {w v : List ℕ} where
  pub record_tested : r ≡ record_encodes w → w ≡ v → r ≡ record_encodes v
  record_tested e f = e ∙ ap record_encodes f

  pub window_tested : r ≡ window_encodes w → w ≡ v → r ≡ window_encodes v
  window_tested e f = e ∙ ap window_encodes f

-- As many rows as a queue has.
pub queue_read : {y : List (List ℕ)} (n : ℕ) (bytes : List ℕ) → y ≡ rows_of_bytes queue_row_words n bytes
    → n ≡ queue_rows
    → y ≡ rows_of_bytes queue_row_words queue_rows bytes
queue_read n bytes e f = e ∙ ap (λ k. rows_of_bytes queue_row_words k bytes) f

pub ruleset acceptings = (wrong_length, not_encoding, encoding, record_tested, window_tested)
