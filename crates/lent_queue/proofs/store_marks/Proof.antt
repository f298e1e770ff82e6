-- The one row that is stored; there are 270.
use Rattle.lent_queue.specs.LentLaws.{stores}
use borrow.Author.Rules.{rules}
use Rattle.lent_queue.proofs.store_marks.Statement.{statement}
use Rattle.lent_queue.proofs.store_marks.Tie as tie

pub store_marks_spec : {M : Type 1} → statement M
store_marks_spec =
    tie.close
    (tie.spec
    (λ c κs. search rules)
    (λ c. (search stores depth 8, search)))
