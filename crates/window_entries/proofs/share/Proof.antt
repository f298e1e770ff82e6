-- The test decides.
use Rattle.refusal.specs.Cases.{cases}
use Rattle.window_entries.proofs.share.Statement.{statement}
use Rattle.window_entries.proofs.share.Tie as tie

pub share_spec : {M : Type 1} → statement M
share_spec =
    tie.close
    (tie.spec
    (λ c. search cases depth 8)
    (λ c. search cases depth 8))
