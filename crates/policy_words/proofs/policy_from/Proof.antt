-- The tests of the tag stand in the definition's order.
use Rattle.refusal.specs.Cases.{cases}
use Rattle.policy_words.specs.PolicyWords.{policy_from}
use borrow.Author.Rules.{rules}
use Rattle.policy_words.proofs.policy_from.Statement.{statement}
use Rattle.policy_words.proofs.policy_from.Tie as tie

pub policy_from_spec : {M : Type 1} → statement M
unfolding policy_from
policy_from_spec =
    tie.close
    (tie.spec
    (λ c. search rules)
    (λ c. search cases depth 8)
    (λ c. search cases depth 8)
    (λ c. search cases depth 8)
    (λ c. search cases depth 8))
