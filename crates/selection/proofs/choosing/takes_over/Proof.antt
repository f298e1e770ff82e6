-- With one before it or without.
use Rattle.selection.specs.HeadLaws.{heading}
use Rattle.selection.specs.HeadNumbers.{takes_over}
use borrow.Author.Rules.{rules}
use Rattle.selection.proofs.choosing.takes_over.Statement.{statement}
use Rattle.selection.proofs.choosing.takes_over.Tie as tie

pub takes_over_spec : {M : Type 1} → statement M
unfolding takes_over
takes_over_spec =
    tie.close
    (tie.spec
    (λ c. search rules)
    (λ c. search rules)
    (λ c κs. search rules)
    (λ c. search heading depth 8)
    (λ c. search heading depth 8))
