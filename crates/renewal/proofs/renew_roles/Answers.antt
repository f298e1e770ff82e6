-- The answers that the check does not find by itself.
use mathlib.Core.Path.{refl}
use Rattle.ready_index.specs.LoopLaws.{arrived}
use Rattle.renewal.specs.RenewalLaws.{roles, roles_set_out}
use Rattle.rows.specs.Frame.{framing}
use Rattle.lent_queue.specs.FrameLaws.{roots_framing}
use borrow.Author.Rules.{rules}
use Rattle.renewal.proofs.renew_roles.Goals as goal

pub loop-left-init : goal.loop-left-init
loop-left-init c = (search rules, refl, refl, search roles_set_out, search framing, search roots_framing)

pub loop-left-preserved : goal.loop-left-preserved
loop-left-preserved c = (
  search rules,
  search rules,
  search rules,
  search roles depth 8,
  search framing depth 8,
  search roots_framing depth 8,
)

pub returns-in-Err-clause-t_after : goal.returns-in-Err-clause-t_after
returns-in-Err-clause-t_after c = arrived _ (search roles depth 8)

pub returns-clause-t_after : goal.returns-clause-t_after
returns-clause-t_after c = arrived _ (search roles depth 8)
