-- The tests of the tag, in order.
use Rattle.refusal.specs.Cases.{cases}
use Rattle.demands.specs.DemandRows.{protected_tag, by_rows}
use borrow.Author.Rules.{rules}
use Rattle.demands.proofs.is_protected_tag.Statement.{statement}
use Rattle.demands.proofs.is_protected_tag.Tie as tie

pub is_protected_tag_spec : {M : Type 1} → statement M
unfolding protected_tag
is_protected_tag_spec =
    tie.close
    (tie.spec
    (λ c. search (cases, by_rows) depth 8)
    (λ c. search (cases, by_rows) depth 8)
    (λ c. search (cases, by_rows) depth 8))
