-- The tree that holds the thread, then the plan.
use Rattle.refusal.specs.Cases.{cases}
use Rattle.queue.specs.PlanLaws.{plannings}
use Rattle.queue.specs.Plan.{removal_plan}
use borrow.Author.Rules.{rules}
use Rattle.queue.proofs.planning.removal_plan.Statement.{statement}
use Rattle.queue.proofs.planning.removal_plan.Tie as tie

pub removal_plan_spec : {M : Type 1} → statement M
unfolding removal_plan
removal_plan_spec =
    tie.close
    (tie.spec
    (λ c κs. search rules)
    (λ c κs. search rules)
    (λ c. search rules)
    (λ c. search rules)
    (λ c κs. search rules)
    (λ c. search (cases, plannings) depth 8)
    (λ c. search (cases, plannings) depth 8))
