-- The one row that is stored; there are 270.
use Rattle.lent_selection.specs.LentLaws.{renewals}
use Rattle.lent_queue.specs.FrameLaws.{row_framing, queue_framing}
use borrow.Author.Rules.{rules}
use Rattle.lent_selection.proofs.store_epoch.Statement.{statement}
use Rattle.lent_selection.proofs.store_epoch.Tie as tie

pub store_epoch_spec : {M : Type 1} → statement M
store_epoch_spec =
    tie.close
    (tie.spec
    (λ c. search rules)
    (λ c. search rules)
    (λ c. search rules)
    (λ c. search rules)
    (λ c κs. search rules)
    (λ c. (search (renewals, rules) depth 8, search (row_framing, queue_framing, rules) depth 8)))
