use Rattle.refusal.specs.Cases.{cases}
use Rattle.arbitration.specs.Key.{hurried}
use borrow.Author.Rules.{rules}
use Rattle.arbitration.proofs.tests.is_hurried.Statement.{statement}
use Rattle.arbitration.proofs.tests.is_hurried.Tie as tie

pub is_hurried_spec : {M : Type 1} → statement M
unfolding hurried
is_hurried_spec =
    tie.close
    (tie.spec
    (λ c. search cases depth 8)
    (λ c. search cases depth 8)
    (λ c κs. search rules)
    (λ c. search cases depth 8))
