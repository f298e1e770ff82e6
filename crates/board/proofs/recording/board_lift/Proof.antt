-- The words as they were stored.
use borrow.Author.Rules.{rules}
use Rattle.board.specs.RecordingLaws.{place_stored}
use Rattle.board.proofs.recording.board_lift.Statement.{statement}
use Rattle.board.proofs.recording.board_lift.Tie as tie

pub board_lift_spec : {M : Type 1} → statement M
board_lift_spec =
    tie.close
    (tie.spec
    (λ c κs. search rules)
    (λ c. search rules)
    (λ c. search rules)
    (λ c. search rules)
    (λ c. search (place_stored, rules)))
