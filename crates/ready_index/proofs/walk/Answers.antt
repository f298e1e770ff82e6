-- The answers that the check does not find by itself.
use mathlib.Core.Path.{refl}
use native.Mathlib.Omega.{arith}
use lib.ListN.{length-set}
use borrow.Author.Rules.{rules}
use Prim.Native.Nat.{◌-◌}
use Rattle.ready_index.specs.LoopLaws.{walk_set_out, arrived, walks, bottom_steps, lost_steps}
use Rattle.ready_index.proofs.walk.Goals as goal

pub loop-len-init : goal.loop-len-init
loop-len-init c = (refl, search rules, search walk_set_out)

pub returns-in_default-clause-path_after : goal.returns-in_default-clause-path_after
returns-in_default-clause-path_after c = arrived _ (search walks depth 10)

pub returns-in_default-clause-result_in_bounds : goal.returns-in_default-clause-result_in_bounds
returns-in_default-clause-result_in_bounds c = search bottom_steps

pub loop-len-preserved-in-Left : goal.loop-len-preserved-in-Left
loop-len-preserved-in-Left c = (simp length-set (omega arith), simp length-set (omega arith), search walks depth 10)

pub loop-len-preserved : goal.loop-len-preserved
loop-len-preserved c = (simp length-set (omega arith), simp length-set (omega arith), search walks depth 10)

pub returns-in-Equal-clause-path_after : goal.returns-in-Equal-clause-path_after
returns-in-Equal-clause-path_after c = arrived _ (search walks depth 10)

pub returns-in-Equal-clause-result_in_bounds : goal.returns-in-Equal-clause-result_in_bounds
returns-in-Equal-clause-result_in_bounds c = search lost_steps

pub returns-in-Damaged-clause-path_after : goal.returns-in-Damaged-clause-path_after
returns-in-Damaged-clause-path_after c = arrived _ (search walks depth 10)

pub returns-in-Damaged-clause-result_in_bounds : goal.returns-in-Damaged-clause-result_in_bounds
returns-in-Damaged-clause-result_in_bounds c = search lost_steps

pub returns-in-None-clause-path_after : goal.returns-in-None-clause-path_after
returns-in-None-clause-path_after c = arrived _ (search walks depth 10)

pub returns-in-None-clause-result_in_bounds : goal.returns-in-None-clause-result_in_bounds
returns-in-None-clause-result_in_bounds c = search bottom_steps

pub returns-in-Some-current-clause-path_after : goal.returns-in-Some-current-clause-path_after
returns-in-Some-current-clause-path_after c = arrived _ (search walks depth 10)

pub returns-in-Some-current-clause-result_in_bounds : goal.returns-in-Some-current-clause-result_in_bounds
returns-in-Some-current-clause-result_in_bounds c = search lost_steps
