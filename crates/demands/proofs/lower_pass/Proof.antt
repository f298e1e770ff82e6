-- With one before it or without.
use Rattle.refusal.specs.Cases.{cases}
use Rattle.demands.specs.DemandLaws.{demanding}
use borrow.Author.Rules.{rules}
use Rattle.demands.proofs.lower_pass.Statement.{statement}
use Rattle.demands.proofs.lower_pass.Tie as tie

pub lower_pass_spec : {M : Type 1} → statement M
lower_pass_spec =
    tie.close
    (tie.spec
    (λ c. search rules)
    (λ c. search rules)
    (λ c κs. search rules)
    (λ c. search (cases, demanding) depth 8)
    (λ c. search (cases, demanding) depth 8))
