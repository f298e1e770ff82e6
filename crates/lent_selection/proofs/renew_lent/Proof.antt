-- The epoch first; else the roles, and what they leave stored.
use Rattle.lent_selection.specs.LentLaws.{renewals}
use Rattle.rows.specs.Frame.{framing}
use Rattle.lent_queue.specs.FrameLaws.{queue_framing}
use borrow.Author.Rules.{rules}
use Rattle.lent_selection.proofs.renew_lent.Statement.{statement}
use Rattle.lent_selection.proofs.renew_lent.Tie as tie

pub renew_lent_spec : {M : Type 1} → statement M
renew_lent_spec =
    tie.close
    (tie.spec
    (λ c κs. search rules)
    (λ c κs. search rules)
    (λ c. (search renewals depth 8, (search framing depth 8, search queue_framing depth 8)))
    (λ c κs. search rules)
    (λ c. search rules)
    (λ c κs. search rules)
    (λ c. search rules)
    (λ c κs. search rules)
    (λ c. search rules)
    (λ c. (search renewals depth 8, (search framing depth 8, search queue_framing depth 8)))
    (λ c. search rules)
    (λ c. (search renewals depth 8, (search framing depth 8, search queue_framing depth 8))))
