-- The words stand for the arguments, and what the constructor makes is stored.
use mathlib.Core.Path.{◌∙◌}
use Rattle.record_entries.specs.EntryLaws.{on_three}
use Rattle.policy.specs.Parameters.{of_budget}
use borrow.Author.Rules.{rules}
use Rattle.record_entries.proofs.parameters_budget.Statement.{statement}
use Rattle.record_entries.proofs.parameters_budget.Tie as tie

pub parameters_budget_spec : {M : Type 1} → statement M
parameters_budget_spec =
    tie.close
    (tie.spec
    (λ c κs. search rules)
    (λ c κs. search rules)
    (λ c κs. search rules)
    (λ c κs. search rules)
    (λ c. search (◌∙◌, on_three of_budget) depth 8))
