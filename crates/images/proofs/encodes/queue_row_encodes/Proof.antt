-- What is asked of the words, in the definition's order.
use Rattle.refusal.specs.Cases.{cases}
use Rattle.images.specs.Encodes.{queue_row_encodes}
use borrow.Author.Rules.{rules}
use Rattle.images.proofs.encodes.queue_row_encodes.Statement.{statement}
use Rattle.images.proofs.encodes.queue_row_encodes.Tie as tie

pub queue_row_encodes_spec : {M : Type 1} → statement M
unfolding queue_row_encodes
queue_row_encodes_spec =
    tie.close
    (tie.spec
    (λ c κs. search rules)
    (λ c. search cases depth 8)
    (λ c κs. search rules)
    (λ c. search cases depth 8)
    (λ c κs. search rules)
    (λ c. search cases depth 8))
