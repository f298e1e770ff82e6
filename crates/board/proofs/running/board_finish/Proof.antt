-- The call answers by its own contract, and the answer goes into a number.
use Rattle.board.specs.BoardLaws.{board_laws}
use Rattle.board.specs.KeepingLaws.{keeping}
use Rattle.rows.specs.Frame.{framing}
use borrow.Author.Rules.{rules}
use Rattle.board.proofs.running.board_finish.Statement.{statement}
use Rattle.board.proofs.running.board_finish.Tie as tie

pub board_finish_spec : {M : Type 1} → statement M
board_finish_spec =
    tie.close
    (tie.spec
    (λ c κs. search rules)
    (λ c κs. search rules)
    (λ c. search rules)
    (λ c. (search board_laws depth 8, (search keeping, search framing depth 8))))
