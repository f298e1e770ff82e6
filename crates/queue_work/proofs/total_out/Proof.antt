-- One case of the definition for each return; the total can fall, since it is not 0.
use Rattle.refusal.specs.Cases.{cases}
use Rattle.queue_work.specs.Work.{total_out}
use borrow.Author.Rules.{rules}
use Rattle.queue_work.proofs.total_out.Statement.{statement}
use Rattle.queue_work.proofs.total_out.Tie as tie

pub total_out_spec : {M : Type 1} → statement M
unfolding total_out
total_out_spec =
    tie.close
    (tie.spec
    (λ c. search (cases) depth 8)
    (λ c. search rules)
    (λ c. search (cases) depth 8)
    (λ c. search (cases) depth 8))
