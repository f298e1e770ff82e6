-- The tests of the tag stand in the definition's order.
use Rattle.refusal.specs.Cases.{cases}
use Rattle.policy_words.specs.PolicyWords.{role_from}
use Rattle.policy_words.proofs.role_from.Statement.{statement}
use Rattle.policy_words.proofs.role_from.Tie as tie

pub role_from_spec : {M : Type 1} → statement M
unfolding role_from
role_from_spec =
    tie.close
    (tie.spec
    (λ c. search cases depth 8)
    (λ c. search cases depth 8)
    (λ c. search cases depth 8))
