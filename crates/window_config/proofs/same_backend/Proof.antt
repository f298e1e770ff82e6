use Rattle.policy.specs.PolicyCases.{policies}
use Rattle.window_config.specs.Config.{same_backend}
use borrow.Author.Rules.{rules}
use Rattle.window_config.proofs.same_backend.Statement.{statement}
use Rattle.window_config.proofs.same_backend.Tie as tie

pub same_backend_spec : {M : Type 1} → statement M
unfolding same_backend
same_backend_spec =
    tie.close
    (tie.spec
    (λ c. search rules)
    (λ c. search rules)
    (λ c. search rules)
    (λ c. search rules)
    (λ c. search rules)
    (λ c. search rules)
    (λ c. search policies depth 8)
    (λ c. search policies depth 8)
    (λ c. search policies depth 8)
    (λ c. search policies depth 8))
