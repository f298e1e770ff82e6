-- The refreshed words stand for the refreshed window, and each share is taken from what they hold.
use Rattle.window_entries.specs.StepLaws.{words_charged}
use borrow.Author.Rules.{rules}
use Rattle.window_entries.proofs.charged_words.Statement.{statement}
use Rattle.window_entries.proofs.charged_words.Tie as tie

pub charged_words_spec : {M : Type 1} → statement M
charged_words_spec =
    tie.close
    (tie.spec
    (λ c κs. search rules)
    (λ c. search rules)
    (λ c κs. search rules)
    (λ c. search rules)
    (λ c κs. search rules)
    (λ c κs. search rules)
    (λ c. search rules)
    (λ c κs. search rules)
    (λ c κs. search rules)
    (λ c. search rules)
    (λ c. search rules)
    (λ c κs. search rules)
    (λ c. search rules)
    (λ c κs. search rules)
    (λ c. search rules)
    (λ c κs. search rules)
    (λ c κs. search rules)
    (λ c. search words_charged depth 8))
