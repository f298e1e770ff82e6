-- No link has height 0; else the links at the number are read.
use Rattle.rotations.specs.CasesLaws.{turnings}
use Rattle.rotations.specs.Balance.{height}
use borrow.Author.Rules.{rules}
use Rattle.rotations.proofs.height.Statement.{statement}
use Rattle.rotations.proofs.height.Tie as tie

pub height_spec : {M : Type 1} → statement M
unfolding height
height_spec =
    tie.close
    (tie.spec
    (λ c. search rules)
    (λ c. search rules)
    (λ c κs. search rules)
    (λ c. search rules)
    (λ c. search rules)
    (λ c. search turnings depth 8)
    (λ c. search turnings depth 8)
    (λ c. search turnings depth 8))
