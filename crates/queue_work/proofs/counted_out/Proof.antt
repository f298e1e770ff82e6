-- One case of the definition for each return; the count can fall, since it is not 0.
use Rattle.refusal.specs.Cases.{cases}
use Rattle.queue_work.specs.Work.{counted_out}
use borrow.Author.Rules.{rules}
use Rattle.queue_work.proofs.counted_out.Statement.{statement}
use Rattle.queue_work.proofs.counted_out.Tie as tie

pub counted_out_spec : {M : Type 1} → statement M
unfolding counted_out
counted_out_spec =
    tie.close
    (tie.spec
    (λ c. search (cases) depth 8)
    (λ c. search rules)
    (λ c. search (cases) depth 8)
    (λ c. search (cases) depth 8))
