-- Each reader gives its part, and each part's words stand for it.
use Rattle.record_entries.specs.EntryLaws.{entries}
use borrow.Author.Rules.{rules}
use Rattle.record_entries.proofs.words_of_readers.Statement.{statement}
use Rattle.record_entries.proofs.words_of_readers.Tie as tie

pub words_of_readers_spec : {M : Type 1} → statement M
words_of_readers_spec =
    tie.close
    (tie.spec
    (λ c κs. search rules)
    (λ c κs. search rules)
    (λ c κs. search rules)
    (λ c κs. search rules)
    (λ c κs. search rules)
    (λ c κs. search rules)
    (λ c κs. search rules)
    (λ c κs. search rules)
    (λ c κs. search rules)
    (λ c κs. search rules)
    (λ c. search rules)
    (λ c. search rules)
    (λ c κs. search rules)
    (λ c κs. search rules)
    (λ c κs. search rules)
    (λ c. search rules)
    (λ c. search rules)
    (λ c. search rules)
    (λ c. search rules)
    (λ c. search entries depth 8))
