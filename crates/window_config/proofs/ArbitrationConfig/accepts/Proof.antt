use Rattle.policy.specs.PolicyCases.{policies}
use Rattle.window_config.specs.Config.{accepts_budget}
use borrow.Author.Rules.{rules}
use Rattle.window_config.proofs.ArbitrationConfig.accepts.Statement.{statement}
use Rattle.window_config.proofs.ArbitrationConfig.accepts.Tie as tie

pub accepts_spec : {M : Type 1} → statement M
unfolding accepts_budget
accepts_spec =
    tie.close
    (tie.spec
    (λ c. search rules)
    (λ c. search rules)
    (λ c. search policies depth 8)
    (λ c. search policies depth 8))
