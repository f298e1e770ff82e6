-- By the end, then one case for each policy.
use Rattle.refusal.specs.Cases.{cases}
use Rattle.policy.specs.PolicyCases.{policies}
use Rattle.decisions.specs.Turns.{turn_for}
use borrow.Author.Rules.{rules}
use Rattle.decisions.proofs.taking.turn_for.Statement.{statement}
use Rattle.decisions.proofs.taking.turn_for.Tie as tie

pub turn_for_spec : {M : Type 1} → statement M
unfolding turn_for
turn_for_spec =
    tie.close
    (tie.spec
    (λ c κs. search rules)
    (λ c. search (cases, policies) depth 8)
    (λ c. search rules)
    (λ c κs. search rules)
    (λ c. search rules)
    (λ c κs. search rules)
    (λ c. search rules)
    (λ c κs. search rules)
    (λ c. search rules)
    (λ c κs. search rules)
    (λ c. search (cases, policies) depth 8)
    (λ c. search (cases, policies) depth 8)
    (λ c. search (cases, policies) depth 8)
    (λ c. search (cases, policies) depth 8))
