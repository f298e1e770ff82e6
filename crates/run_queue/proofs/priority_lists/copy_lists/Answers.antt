-- One more row is that of one more list.
use Rattle.std.proofs.Common.{rules}
use Rattle.run_queue.specs.ValueLaws.{copying}
use Rattle.run_queue.proofs.priority_lists.copy_lists.Goals as goal

pub loop-k-preserved : goal.loop-k-preserved
loop-k-preserved c = (search rules, search (copying, rules) depth 8)
