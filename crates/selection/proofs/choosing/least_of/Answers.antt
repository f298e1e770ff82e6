-- The answers that the check does not find by itself.
use Prim.Native.Nat.{◌-◌}
use Rattle.ready_index.specs.LoopLaws.{arrived}
use Rattle.selection.specs.HeadLaws.{leasts, least_set_out}
use borrow.Author.Rules.{rules}
use Rattle.selection.proofs.choosing.least_of.Goals as goal

pub loop-k-init : goal.loop-k-init
loop-k-init c = (search rules, search least_set_out)

pub loop-k-preserved : goal.loop-k-preserved
loop-k-preserved c = (search rules, search (leasts, rules) depth 8)

pub returns : goal.returns
returns c = arrived _ (search leasts depth 8)
