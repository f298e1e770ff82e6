-- The answers that the check does not find by itself.
use mathlib.Core.Path.{refl}
use native.Mathlib.Omega.{arith}
use lib.ListN.{length-set}
use borrow.Author.Rules.{rules}
use Prim.Native.Nat.{◌-◌}
use Rattle.ready_index.specs.LoopLaws.{successor_set_out, arrived, successions, next_steps, none_steps}
use Rattle.ready_index.specs.LoopLaws.{below_kept}
use Rattle.ready_index.proofs.successor.Goals as goal

pub loop-links-init : goal.loop-links-init
loop-links-init c = (refl, omega arith, refl, search successor_set_out)

pub returns-in_default-clause-start_after : goal.returns-in_default-clause-start_after
returns-in_default-clause-start_after c = arrived _ (search successions depth 10)

pub returns-in_default-clause-result_in_bounds : goal.returns-in_default-clause-result_in_bounds
returns-in_default-clause-result_in_bounds c = none_steps _ _ (omega arith)

pub returns-in_default-left-clause-start_after : goal.returns-in_default-left-clause-start_after
returns-in_default-left-clause-start_after c = arrived _ (search successions depth 10)

pub returns-in_default-left-clause-result_in_bounds : goal.returns-in_default-left-clause-result_in_bounds
returns-in_default-left-clause-result_in_bounds c = search next_steps

pub returns-then-path-k-clause-start_after : goal.returns-then-path-k-clause-start_after
returns-then-path-k-clause-start_after c = arrived _ (search successions depth 10)

pub returns-then-path-k-clause-result_in_bounds : goal.returns-then-path-k-clause-result_in_bounds
returns-then-path-k-clause-result_in_bounds c = none_steps _ _ (omega arith)

pub loop-links-preserved : goal.loop-links-preserved
loop-links-preserved c = (
  simp length-set (omega arith),
  simp length-set (omega arith),
  search (rules, below_kept),
  search successions depth 10,
)
