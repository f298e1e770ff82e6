-- The head decides.
use Rattle.thread.specs.MembershipLaws.{memberships}
use Rattle.renewal.specs.RenewalLaws.{renewing}
use Rattle.renewal.specs.Steps.{last_move}
use borrow.Author.Rules.{rules}
use Rattle.renewal.proofs.last_move.Statement.{statement}
use Rattle.renewal.proofs.last_move.Tie as tie

pub last_move_spec : {M : Type 1} → statement M
unfolding last_move
last_move_spec =
    tie.close
    (tie.spec
    (λ c κs. search rules)
    (λ c. search rules)
    (λ c. search rules)
    (λ c. search (memberships, renewing) depth 8)
    (λ c. search rules)
    (λ c. search rules)
    (λ c. search (memberships, renewing) depth 8)
    (λ c. search (memberships, renewing) depth 8))
