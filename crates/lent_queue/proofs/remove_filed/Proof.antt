-- The plan by the two roots, then its work; the partner of a tree is one of the twelve.
use Rattle.refusal.specs.Cases.{cases}
use Rattle.queue.specs.PlanLaws.{plannings, bounds}
use Rattle.queue.specs.Plan.{remove_filed}
use Rattle.rows.specs.Unmoved.{unmoving}
use Rattle.rows.specs.Frame.{framing}
use Rattle.lent_queue.specs.FrameLaws.{queue_framing}
use borrow.Author.Rules.{rules}
use Rattle.lent_queue.proofs.remove_filed.Statement.{statement}
use Rattle.lent_queue.proofs.remove_filed.Tie as tie

pub remove_filed_spec : {M : Type 1} → statement M
unfolding remove_filed
remove_filed_spec =
    tie.close
    (tie.spec
    (λ c κs. search rules)
    (λ c κs. search rules)
    (λ c κs. search (cases, plannings, bounds) depth 8)
    (λ c κs. search rules)
    (λ c. search rules)
    (λ c. search rules)
    (λ c κs. search (cases, plannings, bounds) depth 8)
    (λ c. search rules)
    (λ c. (
      search (cases, plannings, bounds) depth 8,
      (search unmoving, (search unmoving, (search framing depth 8, search queue_framing depth 8))),
    ))
    (λ c. search rules)
    (λ c. (
      search (cases, plannings, bounds) depth 8,
      (search unmoving, (search unmoving, (search framing depth 8, search queue_framing depth 8))),
    )))
