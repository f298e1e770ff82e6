-- What is asked of the words, in the definition's order.
use Rattle.refusal.specs.Cases.{holds_by_not, fails_by_not, less, not_less}
use Rattle.images.specs.Encodes.{record_encodes}
use borrow.Author.Rules.{rules}
use Rattle.images.proofs.encodes.record_encodes.Statement.{statement}
use Rattle.images.proofs.encodes.record_encodes.Tie as tie

pub record_encodes_spec : {M : Type 1} → statement M
unfolding record_encodes
record_encodes_spec =
    tie.close
    (tie.spec
    (λ c κs. search rules)
    (λ c. search (holds_by_not, fails_by_not, less, not_less) depth 8)
    (λ c. search rules)
    (λ c. search rules)
    (λ c. search rules)
    (λ c. search rules)
    (λ c. search rules)
    (λ c κs. search rules)
    (λ c. search (holds_by_not, fails_by_not, less, not_less) depth 8)
    (λ c κs. search rules)
    (λ c. search (holds_by_not, fails_by_not, less, not_less) depth 8)
    (λ c κs. search rules)
    (λ c. search (holds_by_not, fails_by_not, less, not_less) depth 8)
    (λ c. search rules)
    (λ c. search (holds_by_not, fails_by_not, less, not_less) depth 8)
    (λ c. search rules)
    (λ c. search rules)
    (λ c κs. search rules)
    (λ c. search (holds_by_not, fails_by_not, less, not_less) depth 8))
