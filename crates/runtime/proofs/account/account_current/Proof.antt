-- The table's length and the configuration, then the judgement.
use Rattle.runtime.specs.RuntimeLaws.{ways, sound_config_lem}
use Rattle.rows.specs.Frame.{framing}
use borrow.Author.Rules.{rules}
use Rattle.runtime.proofs.account.account_current.Statement.{statement}
use Rattle.runtime.proofs.account.account_current.Tie as tie

pub account_current_spec : {M : Type 1} → statement M
account_current_spec =
    tie.close
    (tie.spec
    (λ c. (search (ways, sound_config_lem) depth 8, (search (ways, sound_config_lem) depth 8, search framing depth 8)))
    (λ c κs. search rules)
    (λ c. (search (ways, sound_config_lem) depth 8, (search (ways, sound_config_lem) depth 8, search framing depth 8)))
    (λ c κs. search (ways, sound_config_lem) depth 8)
    (λ c. search rules)
    (λ c. (search (ways, sound_config_lem) depth 8, (search (ways, sound_config_lem) depth 8, search framing depth 8))))
