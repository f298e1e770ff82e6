-- The tests of the membership's words, in order.
use Rattle.refusal.specs.Cases.{cases}
use Rattle.selection.specs.HeadLaws.{ready_row, ready_by_words}
use borrow.Author.Rules.{rules}
use Rattle.selection.proofs.choosing.is_ready_row.Statement.{statement}
use Rattle.selection.proofs.choosing.is_ready_row.Tie as tie

pub is_ready_row_spec : {M : Type 1} → statement M
unfolding ready_row
is_ready_row_spec =
    tie.close
    (tie.spec
    (λ c. search rules)
    (λ c. search (cases, ready_by_words) depth 8)
    (λ c. search rules)
    (λ c. search rules)
    (λ c κs. search rules)
    (λ c κs. search rules)
    (λ c. search (cases, ready_by_words) depth 8)
    (λ c. search rules)
    (λ c. search rules)
    (λ c κs. search rules)
    (λ c κs. search rules)
    (λ c. search (cases, ready_by_words) depth 8)
    (λ c. search (cases, ready_by_words) depth 8))
