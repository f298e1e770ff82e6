-- The epochs are those of the window that the words stand for; a later one refills.
use Rattle.window_entries.specs.StepLaws.{steps}
use borrow.Author.Rules.{rules}
use Rattle.window_entries.proofs.refreshed_words.Statement.{statement}
use Rattle.window_entries.proofs.refreshed_words.Tie as tie

pub refreshed_words_spec : {M : Type 1} → statement M
refreshed_words_spec =
    tie.close
    (tie.spec
    (λ c. search rules)
    (λ c κs. search rules)
    (λ c κs. search rules)
    (λ c. search steps depth 8)
    (λ c. search rules)
    (λ c. search rules)
    (λ c κs. search rules)
    (λ c. search steps depth 8))
