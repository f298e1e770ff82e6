-- The calls stand in the definition's order.
use Rattle.rotations.specs.CasesLaws.{turnings}
use Rattle.rows.specs.Frame.{framing}
use borrow.Author.Rules.{rules}
use Rattle.rotations.proofs.double_right.Statement.{statement}
use Rattle.rotations.proofs.double_right.Tie as tie

pub double_right_spec : {M : Type 1} → statement M
double_right_spec =
    tie.close
    (tie.spec
    (λ c κs. search rules)
    (λ c. search rules)
    (λ c. search rules)
    (λ c. search rules)
    (λ c. (search turnings depth 8, search framing depth 8))
    (λ c κs. search rules)
    (λ c. search rules)
    (λ c. search rules)
    (λ c. search rules)
    (λ c. (search turnings depth 8, search framing depth 8))
    (λ c κs. search rules)
    (λ c. search rules)
    (λ c. (search turnings depth 8, search framing depth 8)))
