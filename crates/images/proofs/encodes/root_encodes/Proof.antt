-- What is asked of the words, in the definition's order.
use Rattle.refusal.specs.Cases.{cases}
use Rattle.images.specs.Encodes.{root_encodes}
use borrow.Author.Rules.{rules}
use Rattle.images.proofs.encodes.root_encodes.Statement.{statement}
use Rattle.images.proofs.encodes.root_encodes.Tie as tie

pub root_encodes_spec : {M : Type 1} → statement M
unfolding root_encodes
root_encodes_spec =
    tie.close
    (tie.spec
    (λ c. search rules)
    (λ c. search rules)
    (λ c κs. search rules)
    (λ c. search cases depth 8)
    (λ c. search rules)
    (λ c. search rules)
    (λ c. search rules)
    (λ c κs. search rules)
    (λ c. search cases depth 8))
