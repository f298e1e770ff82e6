-- A word of the last row.
use Rattle.lent_queue.specs.LentQueue.{queue_of}
use borrow.Author.Rules.{rules}
use Rattle.lent_queue.proofs.real_time_len.Statement.{statement}
use Rattle.lent_queue.proofs.real_time_len.Tie as tie

pub real_time_len_spec : {M : Type 1} → statement M
unfolding queue_of
real_time_len_spec =
    tie.close
    (tie.spec
    (λ c. search rules)
    (λ c. search rules)
    (λ c. search))
