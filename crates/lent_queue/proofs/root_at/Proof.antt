-- The row of the root.
use Rattle.lent_queue.specs.LentLaws.{stores}
use borrow.Author.Rules.{rules}
use Rattle.lent_queue.proofs.root_at.Statement.{statement}
use Rattle.lent_queue.proofs.root_at.Tie as tie

pub root_at_spec : {M : Type 1} → statement M
root_at_spec =
    tie.close
    (tie.spec
    (λ c. search rules)
    (λ c. search rules)
    (λ c. search rules)
    (λ c. search rules)
    (λ c. search rules)
    (λ c κs. search rules)
    (λ c. search (stores) depth 8))
