-- The words stand for the arguments, and what the constructor makes is stored.
use Rattle.record_entries.specs.EntryLaws.{parameters_by, on_five}
use Rattle.policy.specs.Parameters.{new_fair}
use borrow.Author.Rules.{rules}
use Rattle.record_entries.proofs.parameters_fair.Statement.{statement}
use Rattle.record_entries.proofs.parameters_fair.Tie as tie

pub parameters_fair_spec : {M : Type 1} → statement M
parameters_fair_spec =
    tie.close
    (tie.spec
    (λ c κs. search rules)
    (λ c κs. search rules)
    (λ c κs. search rules)
    (λ c κs. search rules)
    (λ c. search (parameters_by, on_five new_fair) depth 8))
