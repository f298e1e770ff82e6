-- The epoch, the change of period, the heads.
use Rattle.refusal.specs.Cases.{cases}
use Rattle.lists.specs.ListsLaws.{listings}
use Rattle.renewal.specs.RenewalLaws.{steps}
use Rattle.lent_selection.specs.LentParts.{running_queue}
use Rattle.lent_selection.specs.LentLaws.{peeks}
use Rattle.rows.specs.Frame.{framing}
use Rattle.lent_queue.specs.FrameLaws.{queue_framing}
use borrow.Author.Rules.{rules}
use Rattle.lent_selection.proofs.peek_running.Statement.{statement}
use Rattle.lent_selection.proofs.peek_running.Tie as tie

pub peek_running_spec : {M : Type 1} → statement M
unfolding running_queue
peek_running_spec =
    tie.close
    (tie.spec
    (λ c κs. search rules)
    (λ c κs. search rules)
    (λ c. search rules)
    (λ c. search rules)
    (λ c κs. search rules)
    (λ c. search rules)
    (λ c. (search (cases, listings, steps, peeks) depth 8, (search framing depth 8, search queue_framing depth 8)))
    (λ c. search rules)
    (λ c. (search (cases, listings, steps, peeks) depth 8, (search framing depth 8, search queue_framing depth 8))))
