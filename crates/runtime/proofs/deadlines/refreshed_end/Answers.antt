-- The deadline, then the store.
use Rattle.refusal.specs.Cases.{cases}
use Rattle.runtime.specs.Rows.{refreshed_end}
use Rattle.runtime.specs.RuntimeLaws.{budgets}
use Rattle.runtime.proofs.deadlines.refreshed_end.Goals as goal

pub returns-in-Ok-clause-t_after : goal.returns-in-Ok-clause-t_after
unfolding refreshed_end
returns-in-Ok-clause-t_after c = search (cases, budgets) depth 8

pub returns-in-Err-clause-t_after : goal.returns-in-Err-clause-t_after
unfolding refreshed_end
returns-in-Err-clause-t_after c = search (cases, budgets) depth 8
