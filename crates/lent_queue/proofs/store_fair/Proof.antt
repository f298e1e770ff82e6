-- The list, the root and the counts, in this order.
use Rattle.lent_queue.specs.LentLaws.{lending}
use Rattle.lent_queue.specs.FrameLaws.{queue_framing}
use borrow.Author.Rules.{rules}
use Rattle.lent_queue.proofs.store_fair.Statement.{statement}
use Rattle.lent_queue.proofs.store_fair.Tie as tie

pub store_fair_spec : {M : Type 1} → statement M
store_fair_spec =
    tie.close
    (tie.spec
    (λ c κs. search rules)
    (λ c κs. search rules)
    (λ c κs. search rules)
    (λ c. (search (lending) depth 8, search queue_framing depth 8)))
