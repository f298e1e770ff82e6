-- The links and the two heights are read in order, and the lean decides.
use Rattle.rotations.specs.CasesLaws.{by_lean}
use Rattle.rotations.specs.Balance.{balance}
use Rattle.rotations.specs.AnswersLaws.{turn_told}
use Rattle.rows.specs.Frame.{framing}
use borrow.Author.Rules.{rules}
use Rattle.rotations.proofs.balance.Statement.{statement}
use Rattle.rotations.proofs.balance.Tie as tie

pub balance_spec : {M : Type 1} → statement M
unfolding balance
balance_spec =
    tie.close
    (tie.spec
    (λ c κs. search rules)
    (λ c. search rules)
    (λ c. search rules)
    (λ c. search rules)
    (λ c. (search (turn_told, by_lean) depth 9, search framing depth 8))
    (λ c κs. search rules)
    (λ c. search rules)
    (λ c. search rules)
    (λ c. search rules)
    (λ c. (search (turn_told, by_lean) depth 9, search framing depth 8))
    (λ c κs. search rules)
    (λ c. search rules)
    (λ c. search rules)
    (λ c. search rules)
    (λ c. (search (turn_told, by_lean) depth 9, search framing depth 8))
    (λ c κs. search rules)
    (λ c. search rules)
    (λ c κs. search rules)
    (λ c. search rules)
    (λ c κs. search rules)
    (λ c. search rules)
    (λ c κs. search rules)
    (λ c. search rules)
    (λ c. search rules)
    (λ c. search rules)
    (λ c. (search (turn_told, by_lean) depth 9, search framing depth 8))
    (λ c. search rules)
    (λ c. (search (turn_told, by_lean) depth 9, search framing depth 8))
    (λ c. search rules)
    (λ c. (search (turn_told, by_lean) depth 9, search framing depth 8))
    (λ c. search rules)
    (λ c. (search (turn_told, by_lean) depth 9, search framing depth 8)))
