-- What the theorems on a search say of a record that meets their premises.
use Rattle.std.specs.Prelude.{◌≡◌, refl}
use Rattle.refusal.specs.Cases.{choose, given, if_less}
use Rattle.lift_record.specs.Record.{in_order_from, ended_by, started_before, place, place_of}
use Rattle.lift_record.specs.Record.{search_left}
use Rattle.lift_record.specs.Halving.{search_from_left}
use Rattle.lift_record.specs.Part.{IsPart}
use Rattle.lift_record.specs.Instance.{lift}
use Rattle.lift_record.proofs.Part.{place_is_part}
use Rattle.lift_record.proofs.SearchLaws.{search_from}

-- At 15 with a width of 6 two runs, from the third on, are all and only those that are named.
pub two_runs : IsPart lift 15 6 (place 2 2)
unfolding in_order_from if_less choose given place_of ended_by started_before
two_runs = place_is_part lift 15 6 refl

-- With five runs known to be in order.
pub known_runs : search_from_left lift 5 15 6 ≡ search_left lift 15 6
unfolding in_order_from if_less choose
known_runs = search_from lift 5 15 6 refl
