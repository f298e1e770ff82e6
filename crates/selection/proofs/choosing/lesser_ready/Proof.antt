-- Whether it takes over decides.
use Rattle.selection.specs.HeadLaws.{heading}
use borrow.Author.Rules.{rules}
use Rattle.selection.proofs.choosing.lesser_ready.Statement.{statement}
use Rattle.selection.proofs.choosing.lesser_ready.Tie as tie

pub lesser_ready_spec : {M : Type 1} → statement M
lesser_ready_spec =
    tie.close
    (tie.spec
    (λ c κs. search rules)
    (λ c. search heading depth 8)
    (λ c. search heading depth 8))
