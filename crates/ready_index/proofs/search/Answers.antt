-- The answers that the check does not find by itself.
use mathlib.Core.Path.{refl}
use native.Mathlib.Omega.{arith}
use lib.ListN.{length-set}
use borrow.Author.Rules.{rules}
use Prim.Native.Nat.{◌-◌}
use Rattle.ready_index.specs.LoopLaws.{search_set_out, arrived, searches, found_steps, missing_steps}
use Rattle.ready_index.specs.LoopLaws.{last_steps}
use Rattle.ready_index.proofs.search.Goals as goal

pub loop-len-init : goal.loop-len-init
loop-len-init c = (refl, search rules, search search_set_out)

pub returns-in_default-clause-path_after : goal.returns-in_default-clause-path_after
returns-in_default-clause-path_after c = arrived _ (search searches depth 10)

pub returns-in_default-clause-result_in_bounds : goal.returns-in_default-clause-result_in_bounds
returns-in_default-clause-result_in_bounds c = search missing_steps

pub loop-len-preserved-in-Left : goal.loop-len-preserved-in-Left
loop-len-preserved-in-Left c = (simp length-set (omega arith), simp length-set (omega arith), search searches depth 10)

pub loop-len-preserved : goal.loop-len-preserved
loop-len-preserved c = (simp length-set (omega arith), simp length-set (omega arith), search searches depth 10)

pub returns-in-Found-clause-path_after : goal.returns-in-Found-clause-path_after
returns-in-Found-clause-path_after c = arrived _ (search searches depth 10)

pub returns-in-Found-clause-result_in_bounds : goal.returns-in-Found-clause-result_in_bounds
returns-in-Found-clause-result_in_bounds c = search found_steps

pub returns-in-Damaged-clause-path_after : goal.returns-in-Damaged-clause-path_after
returns-in-Damaged-clause-path_after c = arrived _ (search searches depth 10)

pub returns-in-Damaged-clause-result_in_bounds : goal.returns-in-Damaged-clause-result_in_bounds
returns-in-Damaged-clause-result_in_bounds c = search missing_steps

pub returns-clause-path_after : goal.returns-clause-path_after
returns-clause-path_after c = arrived _ (search searches depth 10)

pub returns-clause-result_in_bounds : goal.returns-clause-result_in_bounds
returns-clause-result_in_bounds c = search last_steps
