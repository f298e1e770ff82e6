-- By the policy's tag, then by the backend's, then by the runtime's.
use Rattle.codec.specs.KeyLaws.{by_tags}
use borrow.Author.Rules.{rules}
use Rattle.codec.proofs.algorithm_of.Statement.{statement}
use Rattle.codec.proofs.algorithm_of.Tie as tie

pub algorithm_of_spec : {M : Type 1} → statement M
algorithm_of_spec =
    tie.close
    (tie.spec
    (λ c. search rules)
    (λ c. search rules)
    (λ c. search by_tags depth 8)
    (λ c. search rules)
    (λ c. search rules)
    (λ c. search rules)
    (λ c. search rules)
    (λ c. search rules)
    (λ c. search by_tags depth 8)
    (λ c. search by_tags depth 8)
    (λ c. search rules)
    (λ c. search by_tags depth 8)
    (λ c. search rules)
    (λ c. search by_tags depth 8))
