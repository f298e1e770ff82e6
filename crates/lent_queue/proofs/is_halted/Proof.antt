-- The test of the mark.
use Rattle.refusal.specs.Cases.{cases}
use Rattle.lent_queue.specs.LentQueue.{queue_of, halted_from}
use borrow.Author.Rules.{rules}
use Rattle.lent_queue.proofs.is_halted.Statement.{statement}
use Rattle.lent_queue.proofs.is_halted.Tie as tie

pub is_halted_spec : {M : Type 1} → statement M
unfolding queue_of halted_from
is_halted_spec =
    tie.close
    (tie.spec
    (λ c. search rules)
    (λ c. search rules)
    (λ c. search (cases) depth 8)
    (λ c. search (cases) depth 8))
