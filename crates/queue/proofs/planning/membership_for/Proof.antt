-- One case for each policy.
use Rattle.policy.specs.PolicyCases.{policies}
use Rattle.queue.specs.Queue.{membership_for}
use borrow.Author.Rules.{rules}
use Rattle.queue.proofs.planning.membership_for.Statement.{statement}
use Rattle.queue.proofs.planning.membership_for.Tie as tie

pub membership_for_spec : {M : Type 1} → statement M
unfolding membership_for
membership_for_spec =
    tie.close
    (tie.spec
    (λ c. search rules)
    (λ c. search rules)
    (λ c. search rules)
    (λ c. search rules)
    (λ c. search policies depth 8)
    (λ c. search policies depth 8)
    (λ c. search policies depth 8)
    (λ c. search policies depth 8))
