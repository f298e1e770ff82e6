-- The tests of the tag stand in the definition's order.
use Rattle.refusal.specs.Cases.{cases}
use Rattle.policy_words.specs.PolicyWords.{epoch_from}
use Rattle.policy_words.proofs.epoch_from.Statement.{statement}
use Rattle.policy_words.proofs.epoch_from.Tie as tie

pub epoch_from_spec : {M : Type 1} → statement M
unfolding epoch_from
epoch_from_spec =
    tie.close
    (tie.spec
    (λ c. search cases depth 8)
    (λ c. search cases depth 8))
