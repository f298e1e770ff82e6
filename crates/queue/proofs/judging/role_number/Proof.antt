-- The tests of the definition.
use Rattle.refusal.specs.Cases.{cases}
use Rattle.queue.specs.RowJudgement.{role_number}
use Rattle.queue.proofs.judging.role_number.Statement.{statement}
use Rattle.queue.proofs.judging.role_number.Tie as tie

pub role_number_spec : {M : Type 1} → statement M
unfolding role_number
role_number_spec =
    tie.close
    (tie.spec
    (λ c. search cases depth 8)
    (λ c. search cases depth 8)
    (λ c. search cases depth 8))
