-- The call is the comparison's, told as a number beside key and window.
use Rattle.board.specs.BoardLaws.{board_laws}
use Rattle.board.specs.KeepingLaws.{keeping}
use borrow.Author.Rules.{rules}
use Rattle.board.proofs.windows.board_key.Statement.{statement}
use Rattle.board.proofs.windows.board_key.Tie as tie

pub board_key_spec : {M : Type 1} → statement M
board_key_spec =
    tie.close
    (tie.spec
    (λ c κs. search rules)
    (λ c. (search board_laws depth 8, (search keeping, search keeping))))
