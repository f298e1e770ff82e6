-- What is asked of the words, in the definition's order.
use Rattle.refusal.specs.Cases.{cases}
use Rattle.images.specs.Encodes.{marks_encode}
use borrow.Author.Rules.{rules}
use Rattle.images.proofs.encodes.marks_encode.Statement.{statement}
use Rattle.images.proofs.encodes.marks_encode.Tie as tie

pub marks_encode_spec : {M : Type 1} → statement M
unfolding marks_encode
marks_encode_spec =
    tie.close
    (tie.spec
    (λ c. search rules)
    (λ c. search rules)
    (λ c κs. search rules)
    (λ c. search cases depth 8)
    (λ c. search rules)
    (λ c. search cases depth 8))
