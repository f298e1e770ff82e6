-- The words stand for the policy, and its class and its priority are told.
use Rattle.record_entries.specs.EntryLaws.{entries}
use borrow.Author.Rules.{rules}
use Rattle.record_entries.proofs.policy_class_and_priority.Statement.{statement}
use Rattle.record_entries.proofs.policy_class_and_priority.Tie as tie

pub policy_class_and_priority_spec : {M : Type 1} → statement M
policy_class_and_priority_spec =
    tie.close
    (tie.spec
    (λ c κs. search rules)
    (λ c κs. search rules)
    (λ c κs. search rules)
    (λ c κs. search rules)
    (λ c κs. search rules)
    (λ c. search entries depth 8))
