-- The parts put back once, then one case for each end of the work.
use Rattle.queue.specs.PlanLaws.{plannings}
use Rattle.lent_queue.specs.SparedLaws.{settling}
use Rattle.lent_queue.specs.FrameLaws.{queue_framing}
use borrow.Author.Rules.{rules}
use Rattle.lent_queue.proofs.settle.Statement.{statement}
use Rattle.lent_queue.proofs.settle.Tie as tie

pub settle_spec : {M : Type 1} → statement M
settle_spec =
    tie.close
    (tie.spec
    (λ c. search rules)
    (λ c. search rules)
    (λ c κs. search rules)
    (λ c κs. search rules)
    (λ c. (search plannings depth 8, (search settling, search queue_framing depth 8)))
    (λ c. (search plannings depth 8, (search settling, search queue_framing depth 8)))
    (λ c. (search plannings depth 8, (search settling, search queue_framing depth 8))))
