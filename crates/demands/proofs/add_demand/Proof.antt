-- What the candidate asks for, joined.
use Rattle.refusal.specs.Cases.{cases}
use Rattle.demands.specs.Demands.{add_demand}
use borrow.Author.Rules.{rules}
use Rattle.demands.proofs.add_demand.Statement.{statement}
use Rattle.demands.proofs.add_demand.Tie as tie

pub add_demand_spec : {M : Type 1} → statement M
unfolding add_demand
add_demand_spec =
    tie.close
    (tie.spec
    (λ c κs. search rules)
    (λ c κs. search rules)
    (λ c. search cases depth 8))
