use Rattle.refusal.specs.Cases.{cases}
use Rattle.time.specs.TimeLaws.{times}
use Rattle.budget.specs.Runtime.{expiry_within}
use borrow.Author.Rules.{rules}
use Rattle.budget.proofs.expiry_within.Statement.{statement}
use Rattle.budget.proofs.expiry_within.Tie as tie

pub expiry_within_spec : {M : Type 1} → statement M
unfolding expiry_within
expiry_within_spec =
    tie.close
    (tie.spec
    (λ c κs. search rules)
    (λ c. search rules)
    (λ c. search rules)
    (λ c. search (cases, times) depth 8)
    (λ c κs. search rules)
    (λ c. search rules)
    (λ c. search rules)
    (λ c. search (cases, times) depth 8)
    (λ c κs. search rules)
    (λ c. search (cases, times) depth 8))
