-- The tests of the tag stand in the definition's order.
use Rattle.refusal.specs.Cases.{cases}
use Rattle.policy_words.specs.PolicyWords.{backend_from}
use Rattle.policy_words.proofs.backend_from.Statement.{statement}
use Rattle.policy_words.proofs.backend_from.Tie as tie

pub backend_from_spec : {M : Type 1} → statement M
unfolding backend_from
backend_from_spec =
    tie.close
    (tie.spec
    (λ c. search cases depth 8)
    (λ c. search cases depth 8))
