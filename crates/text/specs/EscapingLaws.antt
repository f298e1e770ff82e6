-- Laws of escaping.
use Rattle.std.specs.Prelude.{ℕ, ◌+◌, ◌<◌, ◌≤◌, ◌≡◌, List, length, drop, get_or}
use Rattle.std.proofs.Common.{add-one, drop_of_length-le, drop-cons}
use Rattle.text.specs.Writing.{Page, written}
use Rattle.text.specs.WritingLaws.{written_append}
use Rattle.text.specs.Escaping.{escaped_byte, escaped}

-- Byte by byte.
module _ (text : List ℕ) (i : ℕ) (p : Page) where
  pub escaped_at : i < length text → written p (escaped (drop i text))
      ≡ written (written p (escaped_byte (get_or text i 0))) (escaped (drop (i + 1) text))
  unfolding escaped
  escaped_at h = rw (drop-cons text i 0 h, add-one) (written_append p _ _)

  pub escaped_end : length text ≤ i → written p (escaped (drop i text)) ≡ p
  unfolding escaped written
  escaped_end h = rw (drop_of_length-le text h)

pub ruleset escapings = (escaped_at, escaped_end)
