-- The one row that is stored.
use Rattle.lent_queue.specs.LentLaws.{stores}
use Rattle.lent_queue.specs.FrameLaws.{row_framing}
use borrow.Author.Rules.{rules}
use Rattle.lent_queue.proofs.set_root.Statement.{statement}
use Rattle.lent_queue.proofs.set_root.Tie as tie

pub set_root_spec : {M : Type 1} → statement M
set_root_spec =
    tie.close
    (tie.spec
    (λ c. search rules)
    (λ c. search rules)
    (λ c. search rules)
    (λ c κs. search rules)
    (λ c. search rules)
    (λ c. search rules)
    (λ c. search rules)
    (λ c. search rules)
    (λ c. search rules)
    (λ c. search rules)
    (λ c. search rules)
    (λ c. (search (stores) depth 8, search (row_framing, rules) depth 8)))
