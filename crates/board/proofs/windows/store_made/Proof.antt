-- The window that is made is stored, a refusal's number is told.
use Rattle.board.specs.BoardLaws.{storing}
use Rattle.board.specs.KeepingLaws.{keeping}
use borrow.Author.Rules.{rules}
use Rattle.board.proofs.windows.store_made.Statement.{statement}
use Rattle.board.proofs.windows.store_made.Tie as tie

pub store_made_spec : {M : Type 1} → statement M
store_made_spec =
    tie.close
    (tie.spec
    (λ c. search rules)
    (λ c κs. search rules)
    (λ c. search rules)
    (λ c κs. search rules)
    (λ c. (search storing depth 8, search keeping))
    (λ c. (search storing depth 8, search keeping)))
