use Rattle.policy.specs.PolicyCases.{policies}
use Rattle.arbitration.specs.Key.{ordinary_rank}
use borrow.Author.Rules.{rules}
use Rattle.arbitration.proofs.tests.ordinary_rank.Statement.{statement}
use Rattle.arbitration.proofs.tests.ordinary_rank.Tie as tie

pub ordinary_rank_spec : {M : Type 1} → statement M
unfolding ordinary_rank
ordinary_rank_spec =
    tie.close
    (tie.spec
    (λ c. search rules)
    (λ c. search rules)
    (λ c. search rules)
    (λ c. search rules)
    (λ c. search policies depth 8)
    (λ c. search policies depth 8)
    (λ c. search policies depth 8)
    (λ c. search policies depth 8))
