-- Every part is stored once, each over the row that the one before left.
use Rattle.codec.specs.RowLaws.{all_stored}
use borrow.Author.Rules.{rules}
use Rattle.codec.proofs.encode.Statement.{statement}
use Rattle.codec.proofs.encode.Tie as tie

pub encode_spec : {M : Type 1} → statement M
encode_spec =
    tie.close
    (tie.spec
    (λ c κs. search rules)
    (λ c κs. search rules)
    (λ c κs. search rules)
    (λ c κs. search rules)
    (λ c κs. search rules)
    (λ c κs. search rules)
    (λ c. search all_stored depth 8))
