-- One case for each membership.
use Rattle.thread.specs.MembershipLaws.{memberships}
use Rattle.queue.specs.Queue.{list_of}
use borrow.Author.Rules.{rules}
use Rattle.lent_queue.proofs.list_of.Statement.{statement}
use Rattle.lent_queue.proofs.list_of.Tie as tie

pub list_of_spec : {M : Type 1} → statement M
unfolding list_of
list_of_spec =
    tie.close
    (tie.spec
    (λ c. search rules)
    (λ c κs. search rules)
    (λ c. search rules)
    (λ c κs. search rules)
    (λ c. search rules)
    (λ c κs. search rules)
    (λ c. search rules)
    (λ c κs. search rules)
    (λ c. search rules)
    (λ c κs. search rules)
    (λ c. search (memberships) depth 8)
    (λ c. search (memberships) depth 8)
    (λ c. search (memberships) depth 8)
    (λ c. search (memberships) depth 8)
    (λ c. search (memberships) depth 8))
