-- One case for each mode.
use Rattle.arbitration.specs.ArbitrationLaws.{modes}
use Rattle.decisions.specs.OwnDeadline.{borrows}
use borrow.Author.Rules.{rules}
use Rattle.decisions.proofs.own.borrows.Statement.{statement}
use Rattle.decisions.proofs.own.borrows.Tie as tie

pub borrows_spec : {M : Type 1} → statement M
unfolding borrows
borrows_spec =
    tie.close
    (tie.spec
    (λ c. search rules)
    (λ c. search rules)
    (λ c. search rules)
    (λ c. search rules)
    (λ c. search rules)
    (λ c. search modes depth 8)
    (λ c. search modes depth 8)
    (λ c. search modes depth 8)
    (λ c. search modes depth 8)
    (λ c. search modes depth 8))
