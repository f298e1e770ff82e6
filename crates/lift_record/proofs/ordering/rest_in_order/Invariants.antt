-- The rest of the pass gives what the whole gives.
use Rattle.std.proofs.Common.{◌≡◌, drop}
use Rattle.lift_record.specs.OrderLaws.{runs_in_order}
use Rattle.lift_record.proofs.ordering.rest_in_order.Given as goal

abbrev pub invariant-loop-run : goal.invariant-loop-run
invariant-loop-run l = runs_in_order l.last (drop l.run-index l.runs) ≡ runs_in_order l.fn.last l.runs
