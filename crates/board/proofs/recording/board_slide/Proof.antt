-- The words as they were stored.
use borrow.Author.Rules.{rules}
use Rattle.board.specs.RecordingLaws.{slide_stored}
use Rattle.board.proofs.recording.board_slide.Statement.{statement}
use Rattle.board.proofs.recording.board_slide.Tie as tie

pub board_slide_spec : {M : Type 1} → statement M
board_slide_spec =
    tie.close
    (tie.spec
    (λ c κs. search rules)
    (λ c. search rules)
    (λ c. search rules)
    (λ c. search rules)
    (λ c. search rules)
    (λ c. search (slide_stored, rules)))
