-- By whether the end fits.
use Rattle.time.specs.TimeLaws.{times}
use Rattle.decisions.specs.OwnDeadline.{saturated_end}
use borrow.Author.Rules.{rules}
use Rattle.decisions.proofs.own.saturated_end.Statement.{statement}
use Rattle.decisions.proofs.own.saturated_end.Tie as tie

pub saturated_end_spec : {M : Type 1} → statement M
unfolding saturated_end
saturated_end_spec =
    tie.close
    (tie.spec
    (λ c κs. search rules)
    (λ c. search rules)
    (λ c. search rules)
    (λ c. search times depth 8)
    (λ c. search times depth 8))
