-- The length of the fair list.
use Rattle.lent_queue.specs.LentLaws.{stores}
use borrow.Author.Rules.{rules}
use Rattle.lent_queue.proofs.fair_len.Statement.{statement}
use Rattle.lent_queue.proofs.fair_len.Tie as tie

pub fair_len_spec : {M : Type 1} → statement M
fair_len_spec =
    tie.close
    (tie.spec
    (λ c κs. search rules)
    (λ c. search stores depth 8))
