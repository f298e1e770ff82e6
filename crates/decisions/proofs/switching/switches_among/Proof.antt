-- One case for each policy.
use Rattle.refusal.specs.Cases.{cases}
use Rattle.policy.specs.PolicyCases.{policies}
use Rattle.decisions.specs.Switch.{switches_among}
use borrow.Author.Rules.{rules}
use Rattle.decisions.proofs.switching.switches_among.Statement.{statement}
use Rattle.decisions.proofs.switching.switches_among.Tie as tie

pub switches_among_spec : {M : Type 1} → statement M
unfolding switches_among
switches_among_spec =
    tie.close
    (tie.spec
    (λ c. search rules)
    (λ c κs. search rules)
    (λ c. search rules)
    (λ c κs. search rules)
    (λ c. search rules)
    (λ c. search (cases, policies) depth 8)
    (λ c. search rules)
    (λ c. search (cases, policies) depth 8)
    (λ c. search (cases, policies) depth 8)
    (λ c. search (cases, policies) depth 8)
    (λ c. search (cases, policies) depth 8))
