-- The tests of the tags, in order.
use Rattle.refusal.specs.Cases.{cases}
use Rattle.queue.specs.RowJudgement.{bad_row, by_tags}
use borrow.Author.Rules.{rules}
use Rattle.queue.proofs.judging.is_bad_row.Statement.{statement}
use Rattle.queue.proofs.judging.is_bad_row.Tie as tie

pub is_bad_row_spec : {M : Type 1} → statement M
unfolding bad_row
is_bad_row_spec =
    tie.close
    (tie.spec
    (λ c. search rules)
    (λ c κs. search rules)
    (λ c. search rules)
    (λ c κs. search rules)
    (λ c. search rules)
    (λ c. search (cases, by_tags) depth 8)
    (λ c. search rules)
    (λ c. search rules)
    (λ c. search rules)
    (λ c κs. search rules)
    (λ c. search (cases, by_tags) depth 8)
    (λ c. search (cases, by_tags) depth 8)
    (λ c. search rules)
    (λ c. search (cases, by_tags) depth 8)
    (λ c. search (cases, by_tags) depth 8)
    (λ c. search (cases, by_tags) depth 8))
