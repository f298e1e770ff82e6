-- The words stand for the arguments, the call answers by its own contract, and its answer is stored.
use mathlib.Core.Path.{◌∙◌}
use Rattle.algorithms.specs.Runtime.{candidate_key}
use Rattle.record_entries.specs.EntryLaws.{on_three}
use borrow.Author.Rules.{rules}
use Rattle.record_entries.proofs.runtime_candidate_key.Statement.{statement}
use Rattle.record_entries.proofs.runtime_candidate_key.Tie as tie

pub runtime_candidate_key_spec : {M : Type 1} → statement M
runtime_candidate_key_spec =
    tie.close
    (tie.spec
    (λ c κs. search rules)
    (λ c κs. search rules)
    (λ c κs. search rules)
    (λ c κs. search rules)
    (λ c. search (◌∙◌, on_three candidate_key) depth 8))
