-- The stores are at words 8 to 11 alone, and the row has 12 words, so that each is made.
use Rattle.window_words.specs.WordLaws.{progress_stored}
use borrow.Author.Rules.{rules}
use Rattle.window_words.proofs.with_progress.Statement.{statement}
use Rattle.window_words.proofs.with_progress.Tie as tie

pub with_progress_spec : {M : Type 1} → statement M
with_progress_spec =
    tie.close
    (tie.spec
    (λ c κs. search rules)
    (λ c. search rules)
    (λ c. search rules)
    (λ c. search rules)
    (λ c. search rules)
    (λ c. search rules)
    (λ c. search rules)
    (λ c. search progress_stored depth 8))
