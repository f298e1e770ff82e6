-- The tests of the tag stand in the definition's order.
use Rattle.refusal.specs.Cases.{cases}
use Rattle.codec.specs.Codec.{membership_from}
use borrow.Author.Rules.{rules}
use Rattle.codec.proofs.membership_from.Statement.{statement}
use Rattle.codec.proofs.membership_from.Tie as tie

pub membership_from_spec : {M : Type 1} → statement M
unfolding membership_from
membership_from_spec =
    tie.close
    (tie.spec
    (λ c. search cases depth 8)
    (λ c. search rules)
    (λ c. search rules)
    (λ c. search cases depth 8)
    (λ c. search rules)
    (λ c. search cases depth 8)
    (λ c. search cases depth 8)
    (λ c. search cases depth 8))
