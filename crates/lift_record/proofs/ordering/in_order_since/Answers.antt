-- Runs in order are all that there is where no word is left over.
use Rattle.lift_record.specs.OrderLaws.{whole_since}
use Rattle.lift_record.proofs.ordering.in_order_since.Goals as goal

pub returns-then-fours_in_order : goal.returns-then-fours_in_order
returns-then-fours_in_order c = search whole_since depth 12
