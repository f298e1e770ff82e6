-- What is asked first: a refusal of it is the call's.
use Rattle.ready_index.specs.CallsLaws.{refused_up}
use Rattle.ready_index.specs.Calls.{contains_call}
use Rattle.ready_index.proofs.calls.contains.Goals as goal

pub returns-in_err-asked : goal.returns-in_err-asked
unfolding contains_call
returns-in_err-asked c = refused_up _ _ _ _ c.asked.ensures c.in_err-asked.was c.from_residual.ensures
