-- The tests of the tag stand in the definition's order.
use Rattle.refusal.specs.Cases.{cases}
use Rattle.policy_words.specs.PolicyWords.{runtime_from}
use borrow.Author.Rules.{rules}
use Rattle.policy_words.proofs.runtime_from.Statement.{statement}
use Rattle.policy_words.proofs.runtime_from.Tie as tie

pub runtime_from_spec : {M : Type 1} → statement M
unfolding runtime_from
runtime_from_spec =
    tie.close
    (tie.spec
    (λ c. search cases depth 8)
    (λ c. search cases depth 8)
    (λ c κs. search rules)
    (λ c. search cases depth 8)
    (λ c. search cases depth 8))
