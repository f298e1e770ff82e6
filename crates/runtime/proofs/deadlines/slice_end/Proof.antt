-- The tests, in order.
use Rattle.refusal.specs.Cases.{cases}
use Rattle.runtime.specs.Rows.{slice_end}
use borrow.Author.Rules.{rules}
use Rattle.runtime.proofs.deadlines.slice_end.Statement.{statement}
use Rattle.runtime.proofs.deadlines.slice_end.Tie as tie

pub slice_end_spec : {M : Type 1} → statement M
unfolding slice_end
slice_end_spec =
    tie.close
    (tie.spec
    (λ c. search rules)
    (λ c. search cases depth 8)
    (λ c. search rules)
    (λ c κs. search rules)
    (λ c. search cases depth 8)
    (λ c. search cases depth 8)
    (λ c. search cases depth 8))
