-- The call on what the words stand for, and what it left stored.
use Rattle.board.specs.BoardLaws.{board_laws}
use Rattle.board.proofs.selecting.board_select.Goals as goal

pub returns-clause-selects : goal.returns-clause-selects
returns-clause-selects c = search board_laws depth 8
