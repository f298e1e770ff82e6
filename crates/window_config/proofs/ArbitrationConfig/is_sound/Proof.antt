use Rattle.refusal.specs.Cases.{cases}
use Rattle.window_config.specs.Config.{sound_config}
use borrow.Author.Rules.{rules}
use Rattle.window_config.proofs.ArbitrationConfig.is_sound.Statement.{statement}
use Rattle.window_config.proofs.ArbitrationConfig.is_sound.Tie as tie

pub is_sound_spec : {M : Type 1} → statement M
unfolding sound_config
is_sound_spec =
    tie.close
    (tie.spec
    (λ c. search cases depth 8)
    (λ c. search cases depth 8)
    (λ c. search cases depth 8)
    (λ c. search cases depth 8)
    (λ c. search rules)
    (λ c. search cases depth 8)
    (λ c κs. search rules)
    (λ c. search cases depth 8))
