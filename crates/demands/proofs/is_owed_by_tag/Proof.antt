-- The role decides.
use Rattle.refusal.specs.Cases.{cases}
use borrow.Author.Rules.{rules}
use Rattle.demands.proofs.is_owed_by_tag.Statement.{statement}
use Rattle.demands.proofs.is_owed_by_tag.Tie as tie

pub is_owed_by_tag_spec : {M : Type 1} → statement M
is_owed_by_tag_spec =
    tie.close
    (tie.spec
    (λ c κs. search rules)
    (λ c. search cases depth 8)
    (λ c. search cases depth 8))
