-- The three lengths are stored.
use Rattle.board.specs.BoardLaws.{board_laws}
use borrow.Author.Rules.{rules}
use Rattle.board.proofs.queueing.board_lengths.Statement.{statement}
use Rattle.board.proofs.queueing.board_lengths.Tie as tie

pub board_lengths_spec : {M : Type 1} → statement M
board_lengths_spec =
    tie.close
    (tie.spec
    (λ c κs. search rules)
    (λ c κs. search rules)
    (λ c κs. search rules)
    (λ c. search board_laws depth 8))
