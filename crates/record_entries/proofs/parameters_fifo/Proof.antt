-- The words stand for the arguments, and what the constructor makes is stored.
use mathlib.Core.Path.{◌∙◌}
use Rattle.policy.specs.Parameters.{of_fifo}
use Rattle.record_entries.specs.EntryLaws.{on_three}
use borrow.Author.Rules.{rules}
use Rattle.record_entries.proofs.parameters_fifo.Statement.{statement}
use Rattle.record_entries.proofs.parameters_fifo.Tie as tie

pub parameters_fifo_spec : {M : Type 1} → statement M
parameters_fifo_spec =
    tie.close
    (tie.spec
    (λ c κs. search rules)
    (λ c κs. search rules)
    (λ c κs. search rules)
    (λ c. search (◌∙◌, on_three of_fifo) depth 8))
