-- The test of the tag.
use Rattle.refusal.specs.Cases.{cases}
use Rattle.lent_queue.specs.LentQueue.{queue_of}
use Rattle.codec.specs.Codec.{epoch_from}
use borrow.Author.Rules.{rules}
use Rattle.lent_queue.proofs.epoch_at.Statement.{statement}
use Rattle.lent_queue.proofs.epoch_at.Tie as tie

pub epoch_at_spec : {M : Type 1} → statement M
unfolding queue_of epoch_from
epoch_at_spec =
    tie.close
    (tie.spec
    (λ c. search rules)
    (λ c. search rules)
    (λ c. search cases depth 8)
    (λ c. search rules)
    (λ c. search cases depth 8))
