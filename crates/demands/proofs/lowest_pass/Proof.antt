-- Only a Fair candidate counts.
use Rattle.policy.specs.PolicyCases.{policies}
use Rattle.demands.specs.Demands.{lowest_pass}
use borrow.Author.Rules.{rules}
use Rattle.demands.proofs.lowest_pass.Statement.{statement}
use Rattle.demands.proofs.lowest_pass.Tie as tie

pub lowest_pass_spec : {M : Type 1} → statement M
unfolding lowest_pass
lowest_pass_spec =
    tie.close
    (tie.spec
    (λ c. search rules)
    (λ c. search rules)
    (λ c κs. search rules)
    (λ c. search rules)
    (λ c. search rules)
    (λ c. search policies depth 8)
    (λ c. search policies depth 8)
    (λ c. search policies depth 8)
    (λ c. search policies depth 8))
