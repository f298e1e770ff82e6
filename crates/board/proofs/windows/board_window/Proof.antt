-- The window of the words' configuration is stored.
use Rattle.board.specs.BoardLaws.{window_made_lem}
use Rattle.board.specs.KeepingLaws.{keeping}
use borrow.Author.Rules.{rules}
use Rattle.board.proofs.windows.board_window.Statement.{statement}
use Rattle.board.proofs.windows.board_window.Tie as tie

pub board_window_spec : {M : Type 1} → statement M
board_window_spec =
    tie.close
    (tie.spec
    (λ c κs. search rules)
    (λ c κs. search rules)
    (λ c κs. search rules)
    (λ c. (search window_made_lem depth 8, search keeping)))
