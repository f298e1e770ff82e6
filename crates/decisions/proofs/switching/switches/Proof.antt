-- By the order of the bands.
use Rattle.order.specs.OrderLaws.{orderings}
use Rattle.decisions.specs.Switch.{switches}
use borrow.Author.Rules.{rules}
use Rattle.decisions.proofs.switching.switches.Statement.{statement}
use Rattle.decisions.proofs.switching.switches.Tie as tie

pub switches_spec : {M : Type 1} → statement M
unfolding switches
switches_spec =
    tie.close
    (tie.spec
    (λ c κs. search rules)
    (λ c. search rules)
    (λ c. search rules)
    (λ c κs. search rules)
    (λ c. search rules)
    (λ c κs. search rules)
    (λ c. search orderings depth 8)
    (λ c. search orderings depth 8)
    (λ c. search orderings depth 8))
