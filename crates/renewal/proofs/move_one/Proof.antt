-- The exhausted tree, then the rest of the move.
use Rattle.ready_index.specs.AnswersLaws.{rootings}
use Rattle.renewal.specs.Renewal.{move_one}
use Rattle.renewal.specs.RenewalLaws.{refiled_so}
use Rattle.rows.specs.Frame.{framing}
use borrow.Author.Rules.{rules}
use Rattle.renewal.proofs.move_one.Statement.{statement}
use Rattle.renewal.proofs.move_one.Tie as tie

pub move_one_spec : {M : Type 1} → statement M
unfolding move_one
move_one_spec =
    tie.close
    (tie.spec
    (λ c κs. search rules)
    (λ c. search rules)
    (λ c. search rules)
    (λ c. search rules)
    (λ c. (search rootings depth 8, search framing depth 8))
    (λ c κs. search rules)
    (λ c. search rules)
    (λ c. (search (rootings, refiled_so) depth 8, search framing depth 8)))
