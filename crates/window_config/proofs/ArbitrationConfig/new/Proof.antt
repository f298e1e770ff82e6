use Rattle.refusal.specs.Cases.{cases}
use Rattle.window_config.specs.Config.{new_config}
use borrow.Author.Rules.{rules}
use Rattle.window_config.proofs.ArbitrationConfig.new.Statement.{statement}
use Rattle.window_config.proofs.ArbitrationConfig.new.Tie as tie

pub new_spec : {M : Type 1} → statement M
unfolding new_config
new_spec =
    tie.close
    (tie.spec
    (λ c κs. search rules)
    (λ c. search cases depth 8)
    (λ c. search cases depth 8))
