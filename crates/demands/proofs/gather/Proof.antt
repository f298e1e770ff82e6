-- Demand, then pass.
use Rattle.refusal.specs.Cases.{cases}
use Rattle.demands.specs.Demands.{gathered}
use borrow.Author.Rules.{rules}
use Rattle.demands.proofs.gather.Statement.{statement}
use Rattle.demands.proofs.gather.Tie as tie

pub gather_spec : {M : Type 1} → statement M
unfolding gathered
gather_spec =
    tie.close
    (tie.spec
    (λ c κs. search rules)
    (λ c κs. search rules)
    (λ c. search cases depth 8))
