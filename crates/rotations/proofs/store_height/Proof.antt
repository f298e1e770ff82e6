-- Only a height that fits is stored.
use Rattle.rotations.specs.CasesLaws.{turnings}
use Rattle.rotations.specs.InPlace.{height_stored}
use Rattle.rows.specs.Frame.{framing}
use borrow.Author.Rules.{rules}
use Rattle.rotations.proofs.store_height.Statement.{statement}
use Rattle.rotations.proofs.store_height.Tie as tie

pub store_height_spec : {M : Type 1} → statement M
unfolding height_stored
store_height_spec =
    tie.close
    (tie.spec
    (λ c κs. search rules)
    (λ c. search rules)
    (λ c κs. search rules)
    (λ c. search rules)
    (λ c. search rules)
    (λ c. search rules)
    (λ c. (search turnings depth 8, search framing depth 8))
    (λ c. search rules)
    (λ c. (search turnings depth 8, search framing depth 8))
    (λ c. (search turnings depth 8, search framing depth 8)))
