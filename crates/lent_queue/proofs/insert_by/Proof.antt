-- The parts, their work, and what it left put back.
use Rattle.refusal.specs.Cases.{cases}
use Rattle.queue.specs.PlanLaws.{plannings}
use Rattle.queue.specs.Plan.{insert_by}
use Rattle.lent_queue.specs.SparedLaws.{sparing}
use Rattle.rows.specs.Frame.{framing}
use Rattle.lent_queue.specs.FrameLaws.{queue_framing}
use borrow.Author.Rules.{rules}
use Rattle.lent_queue.proofs.insert_by.Statement.{statement}
use Rattle.lent_queue.proofs.insert_by.Tie as tie

pub insert_by_spec : {M : Type 1} → statement M
unfolding insert_by
insert_by_spec =
    tie.close
    (tie.spec
    (λ c κs. search rules)
    (λ c κs. search rules)
    (λ c κs. search rules)
    (λ c. search rules)
    (λ c. (
      search (cases, plannings) depth 8,
      (search sparing, (search sparing, (search framing depth 8, search queue_framing depth 8))),
    )))
