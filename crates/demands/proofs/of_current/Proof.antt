-- With a running thread or without.
use Rattle.demands.specs.DemandLaws.{demanding}
use Rattle.demands.specs.Demands.{of_current}
use borrow.Author.Rules.{rules}
use Rattle.demands.proofs.of_current.Statement.{statement}
use Rattle.demands.proofs.of_current.Tie as tie

pub of_current_spec : {M : Type 1} → statement M
unfolding of_current
of_current_spec =
    tie.close
    (tie.spec
    (λ c. search rules)
    (λ c. search rules)
    (λ c κs. search rules)
    (λ c. search demanding depth 8)
    (λ c. search demanding depth 8))
