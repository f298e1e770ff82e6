-- Both compare once.
use Rattle.rotations.specs.CasesLaws.{turnings}
use Rattle.rotations.specs.Balance.{larger}
use Rattle.rotations.proofs.larger.Statement.{statement}
use Rattle.rotations.proofs.larger.Tie as tie

pub larger_spec : {M : Type 1} → statement M
unfolding larger
larger_spec =
    tie.close
    (tie.spec
    (λ c. search turnings depth 8)
    (λ c. search turnings depth 8))
