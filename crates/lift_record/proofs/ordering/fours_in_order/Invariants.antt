-- The rest of the pass gives what the whole gives.
use Rattle.std.proofs.Common.{◌≡◌, ◌*◌, drop}
use Rattle.lift_record.specs.OrderLaws.{runs_in_order}
use Rattle.lift_record.proofs.ordering.fours_in_order.Given as goal

abbrev pub invariant-loop-four : goal.invariant-loop-four
invariant-loop-four l = runs_in_order l.last (drop (4 * l.four-index) l.runs) ≡ runs_in_order l.fn.last l.runs
