-- The role decides, then the time left.
use Rattle.refusal.specs.Cases.{cases}
use borrow.Author.Rules.{rules}
use Rattle.demands.proofs.is_owed_protection.Statement.{statement}
use Rattle.demands.proofs.is_owed_protection.Tie as tie

pub is_owed_protection_spec : {M : Type 1} → statement M
is_owed_protection_spec =
    tie.close
    (tie.spec
    (λ c κs. search rules)
    (λ c. search cases depth 8)
    (λ c. search cases depth 8))
