-- Each part is stored, and stays while the next is.
use Rattle.run_queue.specs.ValueLaws.{all_stored}
use Rattle.run_queue.proofs.store.Goals as goal

pub returns : goal.returns
returns c = search all_stored depth 8
