-- One case of the definition for each return; the sum fits, since the total is not the greatest.
use Rattle.refusal.specs.Cases.{cases}
use Rattle.queue_work.specs.Work.{total_in}
use borrow.Author.Rules.{rules}
use Rattle.queue_work.proofs.total_in.Statement.{statement}
use Rattle.queue_work.proofs.total_in.Tie as tie

pub total_in_spec : {M : Type 1} → statement M
unfolding total_in
total_in_spec =
    tie.close
    (tie.spec
    (λ c. search (cases) depth 8)
    (λ c. search rules)
    (λ c. search (cases) depth 8)
    (λ c. search (cases) depth 8))
