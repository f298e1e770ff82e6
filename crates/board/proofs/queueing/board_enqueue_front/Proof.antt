-- The call answers by its own contract, and the answer goes into a number.
use Rattle.board.specs.BoardLaws.{board_laws}
use Rattle.board.specs.KeepingLaws.{keeping}
use Rattle.rows.specs.Frame.{framing}
use Rattle.lent_queue.specs.FrameLaws.{queue_framing}
use borrow.Author.Rules.{rules}
use Rattle.board.proofs.queueing.board_enqueue_front.Statement.{statement}
use Rattle.board.proofs.queueing.board_enqueue_front.Tie as tie

pub board_enqueue_front_spec : {M : Type 1} → statement M
board_enqueue_front_spec =
    tie.close
    (tie.spec
    (λ c κs. search rules)
    (λ c κs. search rules)
    (λ c. search rules)
    (λ c. (
      search board_laws depth 8,
      (
        search keeping,
        (search keeping, (search keeping, (search keeping, (search framing depth 8, search queue_framing depth 8)))),
      ),
    )))
