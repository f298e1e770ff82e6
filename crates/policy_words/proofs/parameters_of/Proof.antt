-- Every part is read from the definition's words.
use Rattle.policy_words.specs.PartLaws.{parameters_read}
use borrow.Author.Rules.{rules}
use Rattle.policy_words.proofs.parameters_of.Statement.{statement}
use Rattle.policy_words.proofs.parameters_of.Tie as tie

pub parameters_of_spec : {M : Type 1} → statement M
parameters_of_spec =
    tie.close
    (tie.spec
    (λ c. search rules)
    (λ c. search rules)
    (λ c κs. search rules)
    (λ c. search rules)
    (λ c κs. search rules)
    (λ c. search rules)
    (λ c κs. search rules)
    (λ c. search rules)
    (λ c κs. search rules)
    (λ c. search rules)
    (λ c κs. search rules)
    (λ c. search rules)
    (λ c. search rules)
    (λ c. search rules)
    (λ c. search rules)
    (λ c κs. search rules)
    (λ c. search rules)
    (λ c. search parameters_read depth 8))
