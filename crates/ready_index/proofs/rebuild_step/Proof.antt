-- One link is stored, and the node is balanced by the links that it then has.
use Rattle.rotations.specs.AnswersLaws.{turn_told}
use Rattle.ready_index.specs.InPlaceLaws.{step_up}
use Rattle.rows.specs.Frame.{framing}
use borrow.Author.Rules.{rules}
use Rattle.ready_index.proofs.rebuild_step.Statement.{statement}
use Rattle.ready_index.proofs.rebuild_step.Tie as tie

pub rebuild_step_spec : {M : Type 1} → statement M
rebuild_step_spec =
    tie.close
    (tie.spec
    (λ c. search rules)
    (λ c κs. search rules)
    (λ c. search rules)
    (λ c. search rules)
    (λ c. search rules)
    (λ c. (search (turn_told, step_up) depth 8, search framing depth 8))
    (λ c. search rules)
    (λ c κs. search rules)
    (λ c. search rules)
    (λ c. search rules)
    (λ c. search rules)
    (λ c. (search (turn_told, step_up) depth 8, search framing depth 8))
    (λ c κs. search rules)
    (λ c. search rules)
    (λ c. (search (turn_told, step_up) depth 8, search framing depth 8))
    (λ c κs. search rules)
    (λ c. search rules)
    (λ c. search rules)
    (λ c. search rules)
    (λ c. (search (turn_told, step_up) depth 8, search framing depth 8))
    (λ c κs. search rules)
    (λ c. search rules)
    (λ c. (search (turn_told, step_up) depth 8, search framing depth 8)))
