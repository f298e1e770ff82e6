-- The judgement, then the plan.
use Rattle.queue.specs.PlanLaws.{plannings}
use Rattle.queue.specs.Plan.{insertion_plan}
use borrow.Author.Rules.{rules}
use Rattle.queue.proofs.planning.insertion_plan.Statement.{statement}
use Rattle.queue.proofs.planning.insertion_plan.Tie as tie

pub insertion_plan_spec : {M : Type 1} → statement M
unfolding insertion_plan
insertion_plan_spec =
    tie.close
    (tie.spec
    (λ c κs. search rules)
    (λ c. search rules)
    (λ c. search rules)
    (λ c κs. search rules)
    (λ c. search (plannings) depth 8)
    (λ c. search (plannings) depth 8))
