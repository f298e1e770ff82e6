-- The two tests, in order.
use Rattle.refusal.specs.Cases.{cases}
use Rattle.queue.specs.Plan.{plan_insertion}
use borrow.Author.Rules.{rules}
use Rattle.queue.proofs.planning.plan_insertion.Statement.{statement}
use Rattle.queue.proofs.planning.plan_insertion.Tie as tie

pub plan_insertion_spec : {M : Type 1} → statement M
unfolding plan_insertion
plan_insertion_spec =
    tie.close
    (tie.spec
    (λ c κs. search rules)
    (λ c. search (cases) depth 8)
    (λ c κs. search rules)
    (λ c κs. search rules)
    (λ c κs. search rules)
    (λ c. search (cases) depth 8)
    (λ c. search (cases) depth 8))
