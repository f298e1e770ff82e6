-- One case of the definition for each return; the sum fits, since the count is not the greatest.
use Rattle.refusal.specs.Cases.{cases}
use Rattle.queue_work.specs.Work.{counted_in}
use borrow.Author.Rules.{rules}
use Rattle.queue_work.proofs.counted_in.Statement.{statement}
use Rattle.queue_work.proofs.counted_in.Tie as tie

pub counted_in_spec : {M : Type 1} → statement M
unfolding counted_in
counted_in_spec =
    tie.close
    (tie.spec
    (λ c. search (cases) depth 8)
    (λ c. search rules)
    (λ c. search (cases) depth 8)
    (λ c. search (cases) depth 8))
