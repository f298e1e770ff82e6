-- The tests, in order.
use Rattle.refusal.specs.Cases.{cases}
use Rattle.policy.specs.PolicyCases.{policies}
use Rattle.decisions.specs.Switch.{fair_switches}
use borrow.Author.Rules.{rules}
use Rattle.decisions.proofs.switching.fair_switches.Statement.{statement}
use Rattle.decisions.proofs.switching.fair_switches.Tie as tie

pub fair_switches_spec : {M : Type 1} → statement M
unfolding fair_switches
fair_switches_spec =
    tie.close
    (tie.spec
    (λ c. search (cases, policies) depth 8)
    (λ c. search (cases, policies) depth 8)
    (λ c. search rules)
    (λ c κs. search rules)
    (λ c. search rules)
    (λ c. search (cases, policies) depth 8)
    (λ c. search (cases, policies) depth 8))
