-- The mark, the plan and its work; the tree of a plan is one of the twelve.
use Rattle.lent_queue.specs.LentLaws.{lending}
use Rattle.queue.specs.PlanLaws.{bounds}
use Rattle.rows.specs.Unmoved.{unmoving}
use Rattle.lent_queue.specs.SparedLaws.{sparing}
use Rattle.rows.specs.Frame.{framing}
use Rattle.lent_queue.specs.FrameLaws.{queue_framing}
use borrow.Author.Rules.{rules}
use Rattle.lent_queue.proofs.enqueue_lent.Statement.{statement}
use Rattle.lent_queue.proofs.enqueue_lent.Tie as tie

pub enqueue_lent_spec : {M : Type 1} → statement M
enqueue_lent_spec =
    tie.close
    (tie.spec
    (λ c κs. search rules)
    (λ c κs. search rules)
    (λ c. search rules)
    (λ c. search rules)
    (λ c κs. search (lending, bounds) depth 8)
    (λ c. search rules)
    (λ c. (
      search (lending, bounds) depth 8,
      (
        search unmoving,
        (
          search unmoving,
          (
            search (unmoving, sparing),
            (search (unmoving, sparing), (search framing depth 8, search queue_framing depth 8)),
          ),
        ),
      ),
    ))
    (λ c. search rules)
    (λ c. (
      search (lending, bounds) depth 8,
      (
        search unmoving,
        (
          search unmoving,
          (
            search (unmoving, sparing),
            (search (unmoving, sparing), (search framing depth 8, search queue_framing depth 8)),
          ),
        ),
      ),
    )))
