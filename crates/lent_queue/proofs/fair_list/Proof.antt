-- The row of the fair list.
use Rattle.lent_queue.specs.LentQueue.{queue_of}
use borrow.Author.Rules.{rules}
use Rattle.lent_queue.proofs.fair_list.Statement.{statement}
use Rattle.lent_queue.proofs.fair_list.Tie as tie

pub fair_list_spec : {M : Type 1} → statement M
unfolding queue_of
fair_list_spec =
    tie.close
    (tie.spec
    (λ c. search rules)
    (λ c κs. search rules)
    (λ c. search))
