use Rattle.refusal.specs.Cases.{cases}
use Rattle.window_config.specs.Config.{ranks_rise}
use Rattle.window_config.proofs.ranks_rise.Statement.{statement}
use Rattle.window_config.proofs.ranks_rise.Tie as tie

pub ranks_rise_spec : {M : Type 1} → statement M
unfolding ranks_rise
ranks_rise_spec =
    tie.close
    (tie.spec
    (λ c. search cases depth 8)
    (λ c. search cases depth 8)
    (λ c. search cases depth 8)
    (λ c. search cases depth 8))
