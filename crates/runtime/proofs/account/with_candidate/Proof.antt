-- The stores are at a candidate's words, and the row has 32 words, so that each is made.
use Rattle.runtime.specs.RuntimeLaws.{candidate_written}
use borrow.Author.Rules.{rules}
use Rattle.runtime.proofs.account.with_candidate.Statement.{statement}
use Rattle.runtime.proofs.account.with_candidate.Tie as tie

pub with_candidate_spec : {M : Type 1} → statement M
with_candidate_spec =
    tie.close
    (tie.spec
    (λ c κs. search rules)
    (λ c κs. search rules)
    (λ c. search rules)
    (λ c. search rules)
    (λ c. search rules)
    (λ c. search rules)
    (λ c. search rules)
    (λ c. search rules)
    (λ c. search rules)
    (λ c. search rules)
    (λ c. search rules)
    (λ c. search rules)
    (λ c. search rules)
    (λ c. search rules)
    (λ c. search rules)
    (λ c. search rules)
    (λ c. search rules)
    (λ c. search rules)
    (λ c. search rules)
    (λ c. search rules)
    (λ c. search rules)
    (λ c. search rules)
    (λ c. search rules)
    (λ c. search rules)
    (λ c. search rules)
    (λ c. search rules)
    (λ c. search rules)
    (λ c. search rules)
    (λ c. search rules)
    (λ c. search candidate_written depth 8))
