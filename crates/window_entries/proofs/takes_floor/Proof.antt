-- The tag decides as the role that it stands for.
use Rattle.window_entries.specs.StepLaws.{steps}
use Rattle.window_entries.proofs.takes_floor.Statement.{statement}
use Rattle.window_entries.proofs.takes_floor.Tie as tie

pub takes_floor_spec : {M : Type 1} → statement M
takes_floor_spec =
    tie.close
    (tie.spec
    (λ c. search steps depth 8)
    (λ c. search steps depth 8)
    (λ c. search steps depth 8))
