-- The test of the processor.
use Rattle.refusal.specs.Cases.{cases}
use Rattle.queue.specs.Plan.{plan_ready}
use Rattle.queue.proofs.planning.plan_ready.Statement.{statement}
use Rattle.queue.proofs.planning.plan_ready.Tie as tie

pub plan_ready_spec : {M : Type 1} → statement M
unfolding plan_ready
plan_ready_spec =
    tie.close
    (tie.spec
    (λ c. search cases depth 8)
    (λ c. search cases depth 8))
