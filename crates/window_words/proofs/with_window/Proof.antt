-- The progress is stored over the row that the configuration's store left.
use Rattle.window_words.specs.WordLaws.{window_stored}
use borrow.Author.Rules.{rules}
use Rattle.window_words.proofs.with_window.Statement.{statement}
use Rattle.window_words.proofs.with_window.Tie as tie

pub with_window_spec : {M : Type 1} → statement M
with_window_spec =
    tie.close
    (tie.spec
    (λ c κs. search rules)
    (λ c κs. search rules)
    (λ c. search window_stored depth 8))
