-- Both records are read before one is stored, as in the definition.
use Rattle.rotations.specs.CasesLaws.{rotatings}
use Rattle.rotations.specs.Balance.{rotate_right}
use Rattle.rows.specs.Frame.{framing}
use borrow.Author.Rules.{rules}
use Rattle.rotations.proofs.rotate_right.Statement.{statement}
use Rattle.rotations.proofs.rotate_right.Tie as tie

pub rotate_right_spec : {M : Type 1} → statement M
unfolding rotate_right
rotate_right_spec =
    tie.close
    (tie.spec
    (λ c κs. search rules)
    (λ c. search rules)
    (λ c. search rules)
    (λ c. search rules)
    (λ c. (search rotatings depth 8, search framing depth 8))
    (λ c. search rules)
    (λ c. search rules)
    (λ c. search rules)
    (λ c. (search rotatings depth 8, search framing depth 8))
    (λ c κs. search rules)
    (λ c. search rules)
    (λ c. search rules)
    (λ c. search rules)
    (λ c. (search rotatings depth 8, search framing depth 8))
    (λ c κs. search rules)
    (λ c. search rules)
    (λ c. search rules)
    (λ c. search rules)
    (λ c. (search rotatings depth 8, search framing depth 8))
    (λ c κs. search rules)
    (λ c. search rules)
    (λ c. search rules)
    (λ c. search rules)
    (λ c. (search rotatings depth 8, search framing depth 8))
    (λ c. search rules)
    (λ c. (search rotatings depth 8, search framing depth 8)))
