-- Laws by which the entries of the lift record meet their contracts.
use Rattle.std.specs.Prelude.{ℕ, ◌≡◌, List, [], ◌∷◌, get_or}
use Rattle.std.proofs.Math.Path.{ap}
use Rattle.lift_record.specs.Record.{Found, found_at}
use Rattle.board.specs.Board.{left}
use Rattle.board.specs.Recording.{place_left, slid_left}

-- The words as they were stored.
module _ {part w : List ℕ} {x : Found} (e : found_at part w ≡ x) where
  pub place_stored : left (get_or w 0 0) (get_or w 1 0 ∷ (get_or w 2 0 ∷ [])) ≡ place_left x
  unfolding place_left
  place_stored = ap place_left e

  pub slide_stored : left (get_or w 0 0) (get_or w 1 0 ∷ (get_or w 2 0 ∷ (get_or w 3 0 ∷ []))) ≡ slid_left x
  unfolding slid_left
  slide_stored = ap slid_left e
