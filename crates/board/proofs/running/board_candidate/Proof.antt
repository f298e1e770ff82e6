-- The call answers by its own contract, and the answer goes into a number.
use Rattle.board.specs.BoardLaws.{board_laws}
use Rattle.board.specs.KeepingLaws.{keeping, flag_keeps}
use Rattle.rows.specs.Frame.{framing}
use borrow.Author.Rules.{rules}
use Rattle.board.proofs.running.board_candidate.Statement.{statement}
use Rattle.board.proofs.running.board_candidate.Tie as tie

pub board_candidate_spec : {M : Type 1} → statement M
board_candidate_spec =
    tie.close
    (tie.spec
    (λ c κs. search rules)
    (λ c κs. search rules)
    (λ c κs. search rules)
    (λ c. search rules)
    (λ c. (
      search board_laws depth 8,
      (
        search keeping,
        (
          search keeping,
          (
            flag_keeps c.before.before.current_candidate.ensures.1.1.1.0 (search rules),
            search framing depth 8,
          ),
        ),
      ),
    )))
