-- The selection's words and the window's are stored, a refusal's number is told.
use Rattle.board.specs.BoardLaws.{storing}
use Rattle.board.specs.KeepingLaws.{keeping}
use borrow.Author.Rules.{rules}
use Rattle.board.proofs.selecting.store_answer.Statement.{statement}
use Rattle.board.proofs.selecting.store_answer.Tie as tie

pub store_answer_spec : {M : Type 1} → statement M
store_answer_spec =
    tie.close
    (tie.spec
    (λ c. search rules)
    (λ c κs. search rules)
    (λ c κs. search rules)
    (λ c. search rules)
    (λ c κs. search rules)
    (λ c. (search storing depth 8, (search storing depth 8, (search keeping, search keeping))))
    (λ c. (search storing depth 8, (search storing depth 8, (search keeping, search keeping)))))
