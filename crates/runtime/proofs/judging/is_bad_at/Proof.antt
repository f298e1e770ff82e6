-- The runtime's tag decides: a budget by its policy and its budget, else three words where neither tag is a budget's.
use Rattle.runtime.specs.RuntimeLaws.{bad_rows}
use borrow.Author.Rules.{rules}
use Rattle.runtime.proofs.judging.is_bad_at.Statement.{statement}
use Rattle.runtime.proofs.judging.is_bad_at.Tie as tie

pub is_bad_at_spec : {M : Type 1} → statement M
is_bad_at_spec =
    tie.close
    (tie.spec
    (λ c. search rules)
    (λ c. search rules)
    (λ c. search rules)
    (λ c. search rules)
    (λ c. search rules)
    (λ c. search rules)
    (λ c. search rules)
    (λ c. search rules)
    (λ c κs. search rules)
    (λ c. search bad_rows depth 8)
    (λ c. search bad_rows depth 8)
    (λ c. search rules)
    (λ c. search rules)
    (λ c. search rules)
    (λ c. search rules)
    (λ c. search rules)
    (λ c. search rules)
    (λ c. search bad_rows depth 8)
    (λ c. search rules)
    (λ c. search rules)
    (λ c κs. search rules)
    (λ c. search rules))
