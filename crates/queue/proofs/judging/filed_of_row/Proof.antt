-- Every part is read from the record's words.
use Rattle.queue.specs.RowJudgement.{filed_read}
use borrow.Author.Rules.{rules}
use Rattle.queue.proofs.judging.filed_of_row.Statement.{statement}
use Rattle.queue.proofs.judging.filed_of_row.Tie as tie

pub filed_of_row_spec : {M : Type 1} → statement M
filed_of_row_spec =
    tie.close
    (tie.spec
    (λ c κs. search rules)
    (λ c. search rules)
    (λ c. search rules)
    (λ c. search rules)
    (λ c κs. search rules)
    (λ c. search rules)
    (λ c κs. search rules)
    (λ c. search filed_read depth 8))
