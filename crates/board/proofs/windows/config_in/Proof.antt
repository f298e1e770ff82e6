-- The eight words are the configuration's, whatever follows.
use Rattle.board.specs.BoardLaws.{board_laws}
use borrow.Author.Rules.{rules}
use Rattle.board.proofs.windows.config_in.Statement.{statement}
use Rattle.board.proofs.windows.config_in.Tie as tie

pub config_in_spec : {M : Type 1} → statement M
config_in_spec =
    tie.close
    (tie.spec
    (λ c. search rules)
    (λ c. search rules)
    (λ c. search rules)
    (λ c. search rules)
    (λ c. search rules)
    (λ c. search rules)
    (λ c. search rules)
    (λ c. search rules)
    (λ c κs. search rules)
    (λ c. search board_laws depth 8))
