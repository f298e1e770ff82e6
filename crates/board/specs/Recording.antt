-- What a call on a lift record leaves: the number of a refusal, or 0, and the words of the place. The part itself is
-- the caller's list from the place on.
use Rattle.std.specs.Prelude.{ℕ, List, [], ◌∷◌}
use Rattle.codec.specs.Codec.{word}
use Rattle.lift_record.specs.Record.{Found, found_at, found_number, found_first, found_count, slid_afresh}
use Rattle.board.specs.Board.{Left, left}

-- Of a search: first run and count (SPECIFICATION 14.3).
unfoldable pub place_left : Found → Left (List ℕ)
place_left (found_at part w) = left (word w found_number) (word w found_first ∷ (word w found_count ∷ []))

-- Of a slide: the same, and whether it was afresh (SPECIFICATION 14.4).
unfoldable pub slid_left : Found → Left (List ℕ)
slid_left (found_at part w) =
    left (word w found_number) (word w found_first ∷ (word w found_count ∷ (word w slid_afresh ∷ [])))
