-- One case for each policy.
use Rattle.policy.specs.PolicyCases.{policies}
use Rattle.queue.specs.Queue.{is_fifo}
use borrow.Author.Rules.{rules}
use Rattle.queue.proofs.planning.is_fifo.Statement.{statement}
use Rattle.queue.proofs.planning.is_fifo.Tie as tie

pub is_fifo_spec : {M : Type 1} → statement M
unfolding is_fifo
is_fifo_spec =
    tie.close
    (tie.spec
    (λ c. search rules)
    (λ c. search rules)
    (λ c. search rules)
    (λ c. search rules)
    (λ c. search policies depth 8)
    (λ c. search policies depth 8)
    (λ c. search policies depth 8)
    (λ c. search policies depth 8))
