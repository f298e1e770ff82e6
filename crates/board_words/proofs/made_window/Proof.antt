-- A configuration that is made goes on to its window, a refusal is passed on.
use Rattle.board_words.specs.WordLaws.{word_laws}
use borrow.Author.Rules.{rules}
use Rattle.board_words.proofs.made_window.Statement.{statement}
use Rattle.board_words.proofs.made_window.Tie as tie

pub made_window_spec : {M : Type 1} → statement M
made_window_spec =
    tie.close
    (tie.spec
    (λ c κs. search rules)
    (λ c. search rules)
    (λ c κs. search rules)
    (λ c κs. search rules)
    (λ c. search rules)
    (λ c. search word_laws depth 8)
    (λ c. search word_laws depth 8))
