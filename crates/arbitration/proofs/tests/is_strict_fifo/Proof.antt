use Rattle.policy.specs.PolicyCases.{policies}
use borrow.Author.Rules.{rules}
use Rattle.arbitration.proofs.tests.is_strict_fifo.Statement.{statement}
use Rattle.arbitration.proofs.tests.is_strict_fifo.Tie as tie

pub is_strict_fifo_spec : {M : Type 1} → statement M
is_strict_fifo_spec =
    tie.close
    (tie.spec
    (λ c. search rules)
    (λ c. search rules)
    (λ c. search rules)
    (λ c. search rules)
    (λ c. search rules)
    (λ c. search rules)
    (λ c. search rules)
    (λ c. search policies depth 8)
    (λ c. search policies depth 8)
    (λ c. search policies depth 8)
    (λ c. search policies depth 8)
    (λ c. search policies depth 8)
    (λ c. search policies depth 8))
