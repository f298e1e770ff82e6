-- Rows of zeros stand for the new queue.
use Rattle.lent_queue.specs.LentLaws.{new_rows}
use Rattle.lent_queue.proofs.new_lent.Statement.{statement}
use Rattle.lent_queue.proofs.new_lent.Tie as tie

pub new_lent_spec : {M : Type 1} → statement M
new_lent_spec =
    tie.close
    (tie.spec
    (λ c. search (new_rows) depth 8))
