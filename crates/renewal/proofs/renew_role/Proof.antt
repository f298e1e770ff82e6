-- An empty tree, or the moves and what they leave.
use Rattle.renewal.specs.RenewalLaws.{one_role}
use Rattle.rows.specs.Frame.{framing}
use Rattle.lent_queue.specs.FrameLaws.{roots_framing}
use borrow.Author.Rules.{rules}
use Rattle.renewal.proofs.renew_role.Statement.{statement}
use Rattle.renewal.proofs.renew_role.Tie as tie

pub renew_role_spec : {M : Type 1} → statement M
renew_role_spec =
    tie.close
    (tie.spec
    (λ c. search rules)
    (λ c κs. search rules)
    (λ c κs. search rules)
    (λ c. search rules)
    (λ c. (search one_role depth 8, (search framing depth 8, search roots_framing depth 8)))
    (λ c. search rules)
    (λ c κs. search rules)
    (λ c κs. search rules)
    (λ c. search rules)
    (λ c κs. search rules)
    (λ c. search rules)
    (λ c κs. search rules)
    (λ c. search rules)
    (λ c. search rules)
    (λ c. (search one_role depth 8, (search framing depth 8, search roots_framing depth 8)))
    (λ c. search rules)
    (λ c. search rules)
    (λ c. (search one_role depth 8, (search framing depth 8, search roots_framing depth 8))))
