-- The tests of the runtime's words.
use Rattle.refusal.specs.Cases.{cases}
use Rattle.queue.specs.RowJudgement.{time_left, by_tags}
use borrow.Author.Rules.{rules}
use Rattle.queue.proofs.judging.has_time_left.Statement.{statement}
use Rattle.queue.proofs.judging.has_time_left.Tie as tie

pub has_time_left_spec : {M : Type 1} → statement M
unfolding time_left
has_time_left_spec =
    tie.close
    (tie.spec
    (λ c. search rules)
    (λ c κs. search rules)
    (λ c. search rules)
    (λ c. search (cases, by_tags) depth 8)
    (λ c. search (cases, by_tags) depth 8)
    (λ c. search (cases, by_tags) depth 8))
