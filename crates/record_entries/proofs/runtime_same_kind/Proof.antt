-- The words stand for runtime and policy.
use Rattle.record_entries.specs.EntryLaws.{on_two}
use Rattle.algorithms.specs.Runtime.{same_kind}
use borrow.Author.Rules.{rules}
use Rattle.record_entries.proofs.runtime_same_kind.Statement.{statement}
use Rattle.record_entries.proofs.runtime_same_kind.Tie as tie

pub runtime_same_kind_spec : {M : Type 1} → statement M
runtime_same_kind_spec =
    tie.close
    (tie.spec
    (λ c κs. search rules)
    (λ c. search rules)
    (λ c. search rules)
    (λ c κs. search rules)
    (λ c κs. search rules)
    (λ c. search (on_two same_kind) depth 8))
