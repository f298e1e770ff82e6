-- What is asked of the words, in the definition's order.
use Rattle.refusal.specs.Cases.{cases}
use Rattle.images.specs.Encodes.{budget_encodes}
use borrow.Author.Rules.{rules}
use Rattle.images.proofs.encodes.budget_encodes.Statement.{statement}
use Rattle.images.proofs.encodes.budget_encodes.Tie as tie

pub budget_encodes_spec : {M : Type 1} → statement M
unfolding budget_encodes
budget_encodes_spec =
    tie.close
    (tie.spec
    (λ c κs. search rules)
    (λ c. search cases depth 8)
    (λ c. search cases depth 8))
