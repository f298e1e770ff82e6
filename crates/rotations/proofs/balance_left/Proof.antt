-- The child and the heights of its sides are read in order, and the higher of these decides.
use Rattle.rotations.specs.CasesLaws.{turnings}
use Rattle.rotations.specs.Balance.{balance_left}
use Rattle.rows.specs.Frame.{framing}
use borrow.Author.Rules.{rules}
use Rattle.rotations.proofs.balance_left.Statement.{statement}
use Rattle.rotations.proofs.balance_left.Tie as tie

pub balance_left_spec : {M : Type 1} → statement M
unfolding balance_left
balance_left_spec =
    tie.close
    (tie.spec
    (λ c. search rules)
    (λ c. search rules)
    (λ c. (search turnings depth 8, search framing depth 8))
    (λ c κs. search rules)
    (λ c. search rules)
    (λ c. search rules)
    (λ c. search rules)
    (λ c. (search turnings depth 8, search framing depth 8))
    (λ c κs. search rules)
    (λ c. search rules)
    (λ c. search rules)
    (λ c. search rules)
    (λ c. (search turnings depth 8, search framing depth 8))
    (λ c κs. search rules)
    (λ c. search rules)
    (λ c. search rules)
    (λ c. search rules)
    (λ c. (search turnings depth 8, search framing depth 8))
    (λ c κs. search rules)
    (λ c. search rules)
    (λ c. (search turnings depth 8, search framing depth 8))
    (λ c κs. search rules)
    (λ c. search rules)
    (λ c. (search turnings depth 8, search framing depth 8)))
