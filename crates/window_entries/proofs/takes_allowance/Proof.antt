-- The tags decide as the mode and the role that they stand for.
use Rattle.window_entries.specs.StepLaws.{steps}
use Rattle.window_entries.proofs.takes_allowance.Statement.{statement}
use Rattle.window_entries.proofs.takes_allowance.Tie as tie

pub takes_allowance_spec : {M : Type 1} → statement M
takes_allowance_spec =
    tie.close
    (tie.spec
    (λ c. search steps depth 8)
    (λ c. search steps depth 8)
    (λ c. search steps depth 8))
