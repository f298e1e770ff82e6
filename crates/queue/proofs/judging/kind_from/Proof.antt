-- The tests of the definition.
use Rattle.refusal.specs.Cases.{cases}
use Rattle.queue.specs.RowJudgement.{kind_from}
use Rattle.queue.proofs.judging.kind_from.Statement.{statement}
use Rattle.queue.proofs.judging.kind_from.Tie as tie

pub kind_from_spec : {M : Type 1} → statement M
unfolding kind_from
kind_from_spec =
    tie.close
    (tie.spec
    (λ c. search cases depth 8)
    (λ c. search cases depth 8)
    (λ c. search cases depth 8)
    (λ c. search cases depth 8))
