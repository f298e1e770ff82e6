-- The words as they were stored.
use borrow.Author.Rules.{rules}
use Rattle.board.specs.RecordingLaws.{place_stored}
use Rattle.board.proofs.recording.board_lift_from.Statement.{statement}
use Rattle.board.proofs.recording.board_lift_from.Tie as tie

pub board_lift_from_spec : {M : Type 1} → statement M
board_lift_from_spec =
    tie.close
    (tie.spec
    (λ c κs. search rules)
    (λ c. search rules)
    (λ c. search rules)
    (λ c. search rules)
    (λ c. search (place_stored, rules)))
