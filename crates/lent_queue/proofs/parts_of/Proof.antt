-- The list, the root and the counts as they stand in the rows.
use Rattle.queue.specs.Queue.{parts_of}
use Rattle.lent_queue.specs.LentQueue.{queue_of}
use borrow.Author.Rules.{rules}
use Rattle.lent_queue.proofs.parts_of.Statement.{statement}
use Rattle.lent_queue.proofs.parts_of.Tie as tie

pub parts_of_spec : {M : Type 1} → statement M
unfolding parts_of queue_of
parts_of_spec =
    tie.close
    (tie.spec
    (λ c κs. search rules)
    (λ c κs. search rules)
    (λ c. search rules)
    (λ c. search rules)
    (λ c. search rules)
    (λ c. cc))
