-- Each part's word stands for it.
use Rattle.board_words.specs.WordLaws.{word_laws}
use borrow.Author.Rules.{rules}
use Rattle.board_words.proofs.words_of_thread.Statement.{statement}
use Rattle.board_words.proofs.words_of_thread.Tie as tie

pub words_of_thread_spec : {M : Type 1} → statement M
words_of_thread_spec =
    tie.close
    (tie.spec
    (λ c κs. search rules)
    (λ c κs. search rules)
    (λ c κs. search rules)
    (λ c κs. search rules)
    (λ c κs. search rules)
    (λ c. search rules)
    (λ c. search rules)
    (λ c. search word_laws depth 8))
