-- The call answers by its own contract, and the flag is stored.
use Rattle.board.specs.BoardLaws.{board_laws}
use Rattle.board.specs.KeepingLaws.{keeping}
use borrow.Author.Rules.{rules}
use Rattle.board.proofs.running.board_expired.Statement.{statement}
use Rattle.board.proofs.running.board_expired.Tie as tie

pub board_expired_spec : {M : Type 1} → statement M
board_expired_spec =
    tie.close
    (tie.spec
    (λ c κs. search rules)
    (λ c κs. search rules)
    (λ c. (search board_laws depth 8, search keeping)))
