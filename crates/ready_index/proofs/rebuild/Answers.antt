-- The answers that the check does not find by itself.
use mathlib.Core.Path.{refl}
use Rattle.rows.specs.Frame.{framing}
use borrow.Author.Rules.{rules}
use native.Mathlib.Omega.{arith}
use Rattle.ready_index.specs.LoopLaws.{setting_out, arrived, ascent}
use Rattle.ready_index.proofs.rebuild.Goals as goal

pub loop-len-init : goal.loop-len-init
loop-len-init c = (search rules, refl, search setting_out, search framing)

pub returns-in_default-clause-t_after : goal.returns-in_default-clause-t_after
returns-in_default-clause-t_after c = arrived _ (search ascent depth 8)

pub loop-len-preserved : goal.loop-len-preserved
loop-len-preserved c = (omega arith, search rules, search ascent depth 8, search framing depth 8)

pub returns-clause-t_after : goal.returns-clause-t_after
returns-clause-t_after c = arrived _ (search ascent depth 8)
