-- The row of the priority.
use Rattle.lent_queue.specs.LentLaws.{stores}
use borrow.Author.Rules.{rules}
use Rattle.lent_queue.proofs.real_time_at.Statement.{statement}
use Rattle.lent_queue.proofs.real_time_at.Tie as tie

pub real_time_at_spec : {M : Type 1} → statement M
real_time_at_spec =
    tie.close
    (tie.spec
    (λ c. search rules)
    (λ c. search rules)
    (λ c κs. search rules)
    (λ c. search (stores, rules) depth 8))
