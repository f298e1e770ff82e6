-- What is asked first: a refusal of it is the call's, and nothing is stored.
use Rattle.ready_index.specs.CallsLaws.{refused_out}
use Rattle.ready_index.specs.Calls.{insert_call}
use Rattle.ready_index.proofs.calls.insert.Goals as goal

pub returns-in_err-asked-clause-t_after : goal.returns-in_err-asked-clause-t_after
unfolding insert_call
returns-in_err-asked-clause-t_after c = refused_out _ _ _ _ c.asked.ensures c.in_err-asked.was c.from_residual.ensures
