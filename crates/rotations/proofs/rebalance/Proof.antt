-- A node whose sides are even is left with its links; any other is balanced.
use Rattle.rotations.specs.InPlace.{balance_by}
use Rattle.rotations.specs.InPlaceLaws.{by_links}
use Rattle.rotations.specs.AnswersLaws.{turn_told}
use Rattle.rows.specs.Frame.{framing}
use borrow.Author.Rules.{rules}
use Rattle.rotations.proofs.rebalance.Statement.{statement}
use Rattle.rotations.proofs.rebalance.Tie as tie

pub rebalance_spec : {M : Type 1} → statement M
unfolding balance_by
rebalance_spec =
    tie.close
    (tie.spec
    (λ c κs. search rules)
    (λ c. search rules)
    (λ c. search rules)
    (λ c. search rules)
    (λ c. (search (turn_told, by_links) depth 9 fits 20000, search framing depth 8))
    (λ c κs. search rules)
    (λ c. search rules)
    (λ c. search rules)
    (λ c. search rules)
    (λ c. (search (turn_told, by_links) depth 9 fits 20000, search framing depth 8))
    (λ c κs. search rules)
    (λ c κs. search rules)
    (λ c. search rules)
    (λ c. (search (turn_told, by_links) depth 9 fits 20000, search framing depth 8))
    (λ c κs. search rules)
    (λ c. search rules)
    (λ c. search rules)
    (λ c. search rules)
    (λ c. (search (turn_told, by_links) depth 9 fits 20000, search framing depth 8))
    (λ c. search rules)
    (λ c. (search (turn_told, by_links) depth 9 fits 20000, search framing depth 8)))
