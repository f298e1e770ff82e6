-- The keys decide, and where they are equal the numbers.
use Rattle.refusal.specs.Cases.{cases}
use Rattle.order.specs.OrderLaws.{orderings}
use Rattle.selection.specs.Heads.{comes_before}
use borrow.Author.Rules.{rules}
use Rattle.selection.proofs.choosing.comes_before.Statement.{statement}
use Rattle.selection.proofs.choosing.comes_before.Tie as tie

pub comes_before_spec : {M : Type 1} → statement M
unfolding comes_before
comes_before_spec =
    tie.close
    (tie.spec
    (λ c κs. search rules)
    (λ c. search rules)
    (λ c. search rules)
    (λ c. search (cases, orderings) depth 8)
    (λ c. search rules)
    (λ c. search (cases, orderings) depth 8)
    (λ c. search (cases, orderings) depth 8)
    (λ c. search (cases, orderings) depth 8))
