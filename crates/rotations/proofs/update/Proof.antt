-- The two heights are read in order, and only a height that fits is stored.
use Rattle.rotations.specs.CasesLaws.{turnings}
use Rattle.rotations.specs.Balance.{update}
use Rattle.rows.specs.AnswersLaws.{change_told, same_change}
use Rattle.rows.specs.Frame.{framing}
use borrow.Author.Rules.{rules}
use Rattle.rotations.proofs.update.Statement.{statement}
use Rattle.rotations.proofs.update.Tie as tie

pub update_spec : {M : Type 1} → statement M
unfolding update
update_spec =
    tie.close
    (tie.spec
    (λ c κs. search rules)
    (λ c. search rules)
    (λ c. search rules)
    (λ c. search rules)
    (λ c. (search (change_told, turnings) depth 9, search framing depth 8))
    (λ c κs. search rules)
    (λ c. search rules)
    (λ c. search rules)
    (λ c. search rules)
    (λ c. (search (change_told, turnings) depth 9, search framing depth 8))
    (λ c κs. search rules)
    (λ c. search rules)
    (λ c κs. search rules)
    (λ c. search rules)
    (λ c. (search (change_told, turnings, same_change) depth 9, search framing depth 8))
    (λ c. search rules)
    (λ c. (search (change_told, turnings) depth 9, search framing depth 8)))
