-- One case for each membership.
use Rattle.thread.specs.MembershipLaws.{memberships}
use Rattle.queue.specs.Queue.{with_parts}
use Rattle.lent_queue.specs.FrameLaws.{queue_framing}
use borrow.Author.Rules.{rules}
use Rattle.lent_queue.proofs.store_parts.Statement.{statement}
use Rattle.lent_queue.proofs.store_parts.Tie as tie

pub store_parts_spec : {M : Type 1} → statement M
unfolding with_parts
store_parts_spec =
    tie.close
    (tie.spec
    (λ c. search rules)
    (λ c. search rules)
    (λ c κs. search rules)
    (λ c. search rules)
    (λ c κs. search rules)
    (λ c. search rules)
    (λ c. search rules)
    (λ c. (search (memberships) depth 8, search queue_framing depth 8))
    (λ c. (search (memberships) depth 8, search queue_framing depth 8))
    (λ c. (search (memberships) depth 8, search queue_framing depth 8))
    (λ c. (search (memberships) depth 8, search queue_framing depth 8))
    (λ c. (search (memberships) depth 8, search queue_framing depth 8)))
