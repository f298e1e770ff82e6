-- One case for each policy.
use Rattle.refusal.specs.Cases.{cases}
use Rattle.policy.specs.PolicyCases.{policies}
use Rattle.demands.specs.DemandLaws.{demanding}
use Rattle.demands.specs.Demands.{demand_of}
use borrow.Author.Rules.{rules}
use Rattle.demands.proofs.demand_of.Statement.{statement}
use Rattle.demands.proofs.demand_of.Tie as tie

pub demand_of_spec : {M : Type 1} → statement M
unfolding demand_of
demand_of_spec =
    tie.close
    (tie.spec
    (λ c κs. search rules)
    (λ c κs. search rules)
    (λ c. search rules)
    (λ c. search rules)
    (λ c. search rules)
    (λ c κs. search rules)
    (λ c. search rules)
    (λ c. search (cases, policies, demanding) depth 8)
    (λ c. search (cases, policies, demanding) depth 8)
    (λ c. search (cases, policies, demanding) depth 8)
    (λ c. search (cases, policies, demanding) depth 8))
