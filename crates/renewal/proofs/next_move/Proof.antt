-- The head, then its move.
use Rattle.lists.specs.ListsLaws.{listings}
use Rattle.thread.specs.MembershipLaws.{memberships}
use Rattle.renewal.specs.RenewalLaws.{renewing}
use Rattle.renewal.specs.Steps.{next_move}
use Rattle.rows.specs.Frame.{framing}
use borrow.Author.Rules.{rules}
use Rattle.renewal.proofs.next_move.Statement.{statement}
use Rattle.renewal.proofs.next_move.Tie as tie

pub next_move_spec : {M : Type 1} → statement M
unfolding next_move
next_move_spec =
    tie.close
    (tie.spec
    (λ c κs. search rules)
    (λ c. search rules)
    (λ c. search rules)
    (λ c. search rules)
    (λ c. (search (listings, memberships, renewing) depth 8, search framing depth 8))
    (λ c. search rules)
    (λ c. search rules)
    (λ c. search rules)
    (λ c. (search (listings, memberships, renewing) depth 8, search framing depth 8))
    (λ c. search rules)
    (λ c κs. search rules)
    (λ c. search rules)
    (λ c. search rules)
    (λ c. search rules)
    (λ c. (search (listings, memberships, renewing) depth 8, search framing depth 8))
    (λ c. search rules)
    (λ c. (search (listings, memberships, renewing) depth 8, search framing depth 8)))
