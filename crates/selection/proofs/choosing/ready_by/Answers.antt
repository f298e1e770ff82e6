-- Its key, and the lesser of two.
use Rattle.selection.specs.HeadLaws.{heading}
use Rattle.selection.specs.HeadNumbers.{ready_by}
use Rattle.selection.proofs.choosing.ready_by.Goals as goal

pub returns-in-None : goal.returns-in-None
unfolding ready_by
returns-in-None c = search heading depth 8

pub returns-in-Some : goal.returns-in-Some
unfolding ready_by
returns-in-Some c = search heading depth 8
