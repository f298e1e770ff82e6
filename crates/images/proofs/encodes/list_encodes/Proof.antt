-- What is asked of the words, in the definition's order.
use Rattle.refusal.specs.Cases.{cases}
use Rattle.images.specs.Encodes.{list_encodes}
use borrow.Author.Rules.{rules}
use Rattle.images.proofs.encodes.list_encodes.Statement.{statement}
use Rattle.images.proofs.encodes.list_encodes.Tie as tie

pub list_encodes_spec : {M : Type 1} → statement M
unfolding list_encodes
list_encodes_spec =
    tie.close
    (tie.spec
    (λ c. search rules)
    (λ c. search rules)
    (λ c κs. search rules)
    (λ c. search cases depth 8)
    (λ c. search rules)
    (λ c. search rules)
    (λ c κs. search rules)
    (λ c. search cases depth 8))
