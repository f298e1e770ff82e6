-- The one row that is stored; there are 270.
use Rattle.lent_queue.specs.LentLaws.{stores}
use Rattle.lent_queue.specs.FrameLaws.{row_framing}
use borrow.Author.Rules.{rules}
use Rattle.lent_queue.proofs.set_counts.Statement.{statement}
use Rattle.lent_queue.proofs.set_counts.Tie as tie

pub set_counts_spec : {M : Type 1} → statement M
set_counts_spec =
    tie.close
    (tie.spec
    (λ c. search rules)
    (λ c. search rules)
    (λ c. search rules)
    (λ c. search rules)
    (λ c κs. search rules)
    (λ c. (search (stores, rules) depth 8, search (row_framing, rules) depth 8)))
