-- A record that meets the theorems' premises, and what they say of it; proofs/Instance.antt has the rest.
use Rattle.std.specs.Prelude.{ℕ, ◌≡◌, refl, true, List, [], ◌∷◌, ◌++◌, take}
use Rattle.refusal.specs.Cases.{choose, given, if_less}
use Rattle.lift_record.specs.Record.{in_order, in_order_from, end_before}
use Rattle.lift_record.specs.Record.{with_run, append_left}
use Rattle.lift_record.specs.Appending.{Accepted, accepted, append_in_order}

-- Six runs, two of them of no length.
abbrev pub lift : List ℕ
lift = 0 ∷ 4 ∷ 0 ∷ 4 ∷ 9 ∷ 1 ∷ 10 ∷ 10 ∷ 2 ∷ 12 ∷ 20 ∷ 0 ∷ 20 ∷ 20 ∷ 1 ∷ 25 ∷ 30 ∷ 2 ∷ []

-- The sixth appended to the first five.
pub sixth_run : Accepted (take 15 lift ++ 0 ∷ 0 ∷ 0 ∷ []) 5 25 30 2 lift
unfolding append_left with_run end_before if_less choose given
sixth_run = accepted (take 15 lift ++ 0 ∷ 0 ∷ 0 ∷ []) 5 25 30 2 lift refl

pub six_in_order : in_order lift ≡ true
unfolding in_order_from if_less choose
six_in_order = append_in_order sixth_run refl
