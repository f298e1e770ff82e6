-- Both records are read before one is stored, as in the definition.
use Rattle.rotations.specs.CasesLaws.{rotatings}
use Rattle.rotations.specs.Balance.{rotate_left}
use Rattle.rows.specs.Frame.{framing}
use borrow.Author.Rules.{rules}
use Rattle.rotations.proofs.rotate_left.Statement.{statement}
use Rattle.rotations.proofs.rotate_left.Tie as tie

pub rotate_left_spec : {M : Type 1} → statement M
unfolding rotate_left
rotate_left_spec =
    tie.close
    (tie.spec
    (λ c κs. search rules)
    (λ c. search rules)
    (λ c. search rules)
    (λ c. search rules)
    (λ c. (search rotatings depth 8, search framing depth 8))
    (λ c. search rules)
    (λ c. search rules)
    (λ c. search rules)
    (λ c. (search rotatings depth 8, search framing depth 8))
    (λ c κs. search rules)
    (λ c. search rules)
    (λ c. search rules)
    (λ c. search rules)
    (λ c. (search rotatings depth 8, search framing depth 8))
    (λ c κs. search rules)
    (λ c. search rules)
    (λ c. search rules)
    (λ c. search rules)
    (λ c. (search rotatings depth 8, search framing depth 8))
    (λ c κs. search rules)
    (λ c. search rules)
    (λ c. search rules)
    (λ c. search rules)
    (λ c. (search rotatings depth 8, search framing depth 8))
    (λ c. search rules)
    (λ c. (search rotatings depth 8, search framing depth 8)))
