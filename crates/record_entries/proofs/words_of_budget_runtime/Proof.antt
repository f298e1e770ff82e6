-- Each part's words stand for it.
use Rattle.record_entries.specs.EntryLaws.{entries}
use borrow.Author.Rules.{rules}
use Rattle.record_entries.proofs.words_of_budget_runtime.Statement.{statement}
use Rattle.record_entries.proofs.words_of_budget_runtime.Tie as tie

pub words_of_budget_runtime_spec : {M : Type 1} → statement M
words_of_budget_runtime_spec =
    tie.close
    (tie.spec
    (λ c κs. search rules)
    (λ c. search rules)
    (λ c. search rules)
    (λ c κs. search rules)
    (λ c κs. search rules)
    (λ c. search entries depth 8))
