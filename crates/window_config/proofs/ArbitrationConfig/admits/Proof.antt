use Rattle.refusal.specs.Cases.{cases}
use Rattle.policy.specs.PolicyCases.{policies}
use Rattle.window_config.specs.Config.{admitted}
use borrow.Author.Rules.{rules}
use Rattle.window_config.proofs.ArbitrationConfig.admits.Statement.{statement}
use Rattle.window_config.proofs.ArbitrationConfig.admits.Tie as tie

pub admits_spec : {M : Type 1} → statement M
unfolding admitted
admits_spec =
    tie.close
    (tie.spec
    (λ c κs. search rules)
    (λ c. search (cases, policies) depth 8)
    (λ c. search rules)
    (λ c. search rules)
    (λ c κs. search rules)
    (λ c. search rules)
    (λ c. search rules)
    (λ c. search (cases, policies) depth 8)
    (λ c. search (cases, policies) depth 8)
    (λ c. search (cases, policies) depth 8)
    (λ c. search (cases, policies) depth 8))
