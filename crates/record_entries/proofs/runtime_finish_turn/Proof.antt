-- The words stand for the arguments, the call answers by its own contract, and its answer is stored.
use Rattle.algorithms.specs.Runtime.{turn_finished}
use Rattle.record_entries.specs.EntryLaws.{told_by, on_two}
use borrow.Author.Rules.{rules}
use Rattle.record_entries.proofs.runtime_finish_turn.Statement.{statement}
use Rattle.record_entries.proofs.runtime_finish_turn.Tie as tie

pub runtime_finish_turn_spec : {M : Type 1} → statement M
runtime_finish_turn_spec =
    tie.close
    (tie.spec
    (λ c κs. search rules)
    (λ c κs. search rules)
    (λ c κs. search rules)
    (λ c κs. search rules)
    (λ c. (search (told_by, on_two turn_finished) depth 8, search)))
