-- The tests of the tag stand in the definition's order.
use Rattle.refusal.specs.Cases.{cases}
use Rattle.codec.specs.Codec.{link_from}
use Rattle.codec.proofs.link_from.Statement.{statement}
use Rattle.codec.proofs.link_from.Tie as tie

pub link_from_spec : {M : Type 1} → statement M
unfolding link_from
link_from_spec =
    tie.close
    (tie.spec
    (λ c. search cases depth 8)
    (λ c. search cases depth 8))
