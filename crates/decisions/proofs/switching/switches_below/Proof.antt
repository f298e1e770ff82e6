-- One case for each policy.
use Rattle.policy.specs.PolicyCases.{policies}
use Rattle.decisions.specs.Switch.{switches_below}
use borrow.Author.Rules.{rules}
use Rattle.decisions.proofs.switching.switches_below.Statement.{statement}
use Rattle.decisions.proofs.switching.switches_below.Tie as tie

pub switches_below_spec : {M : Type 1} → statement M
unfolding switches_below
switches_below_spec =
    tie.close
    (tie.spec
    (λ c. search rules)
    (λ c. search rules)
    (λ c. search rules)
    (λ c. search rules)
    (λ c. search policies depth 8)
    (λ c. search policies depth 8)
    (λ c. search policies depth 8)
    (λ c. search policies depth 8))
