-- The tests of the tag, in order.
use Rattle.refusal.specs.Cases.{cases}
use Rattle.demands.specs.DemandRows.{priority_tag, by_rows}
use borrow.Author.Rules.{rules}
use Rattle.demands.proofs.is_priority_tag.Statement.{statement}
use Rattle.demands.proofs.is_priority_tag.Tie as tie

pub is_priority_tag_spec : {M : Type 1} → statement M
unfolding priority_tag
is_priority_tag_spec =
    tie.close
    (tie.spec
    (λ c. search (cases, by_rows) depth 8)
    (λ c. search (cases, by_rows) depth 8)
    (λ c. search (cases, by_rows) depth 8))
