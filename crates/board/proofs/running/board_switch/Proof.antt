-- The words stand for the arguments, and the choice is stored.
use Rattle.board.specs.BoardLaws.{chosen}
use borrow.Author.Rules.{rules}
use Rattle.board.proofs.running.board_switch.Statement.{statement}
use Rattle.board.proofs.running.board_switch.Tie as tie

pub board_switch_spec : {M : Type 1} → statement M
board_switch_spec =
    tie.close
    (tie.spec
    (λ c κs. search rules)
    (λ c κs. search rules)
    (λ c κs. search rules)
    (λ c κs. search rules)
    (λ c κs. search rules)
    (λ c κs. search rules)
    (λ c κs. search rules)
    (λ c κs. search rules)
    (λ c. search chosen depth 8 fits 20000))
