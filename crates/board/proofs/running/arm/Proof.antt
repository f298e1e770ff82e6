-- The call answers by its own contract, and its window and answer are stored.
use Rattle.board.specs.BoardLaws.{board_laws}
use Rattle.board.specs.KeepingLaws.{keeping}
use Rattle.rows.specs.Frame.{framing}
use borrow.Author.Rules.{rules}
use Rattle.board.proofs.running.arm.Statement.{statement}
use Rattle.board.proofs.running.arm.Tie as tie

pub arm_spec : {M : Type 1} → statement M
arm_spec =
    tie.close
    (tie.spec
    (λ c κs. search rules)
    (λ c κs. search rules)
    (λ c. search rules)
    (λ c κs. search rules)
    (λ c κs. search rules)
    (λ c. search rules)
    (λ c κs. search rules)
    (λ c. search rules)
    (λ c. (search board_laws depth 8, (search keeping, (search keeping, (search keeping, search framing depth 8)))))
    (λ c. search rules)
    (λ c. (search board_laws depth 8, (search keeping, (search keeping, (search keeping, search framing depth 8))))))
