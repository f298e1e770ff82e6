-- Part by part.
use Rattle.demands.specs.DemandLaws.{demanding}
use Rattle.demands.specs.Demands.{joined}
use borrow.Author.Rules.{rules}
use Rattle.demands.proofs.joined.Statement.{statement}
use Rattle.demands.proofs.joined.Tie as tie

pub joined_spec : {M : Type 1} → statement M
unfolding joined
joined_spec =
    tie.close
    (tie.spec
    (λ c κs. search rules)
    (λ c κs. search rules)
    (λ c κs. search rules)
    (λ c κs. search rules)
    (λ c κs. search rules)
    (λ c. search demanding depth 8))
