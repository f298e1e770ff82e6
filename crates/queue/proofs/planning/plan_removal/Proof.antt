-- One case for each membership.
use Rattle.refusal.specs.Cases.{cases}
use Rattle.thread.specs.MembershipLaws.{memberships}
use Rattle.queue.specs.Plan.{plan_removal}
use borrow.Author.Rules.{rules}
use Rattle.queue.proofs.planning.plan_removal.Statement.{statement}
use Rattle.queue.proofs.planning.plan_removal.Tie as tie

pub plan_removal_spec : {M : Type 1} → statement M
unfolding plan_removal
plan_removal_spec =
    tie.close
    (tie.spec
    (λ c κs. search rules)
    (λ c. search rules)
    (λ c. search rules)
    (λ c κs. search rules)
    (λ c. search rules)
    (λ c κs. search rules)
    (λ c. search rules)
    (λ c. search rules)
    (λ c. search (cases, memberships) depth 8)
    (λ c. search (cases, memberships) depth 8)
    (λ c. search (cases, memberships) depth 8)
    (λ c. search (cases, memberships) depth 8)
    (λ c. search (cases, memberships) depth 8))
