-- Every part is read from the definition's words.
use Rattle.codec.specs.RowLaws.{record_read}
use borrow.Author.Rules.{rules}
use Rattle.codec.proofs.decode.Statement.{statement}
use Rattle.codec.proofs.decode.Tie as tie

pub decode_spec : {M : Type 1} → statement M
decode_spec =
    tie.close
    (tie.spec
    (λ c κs. search rules)
    (λ c κs. search rules)
    (λ c κs. search rules)
    (λ c κs. search rules)
    (λ c. search rules)
    (λ c κs. search rules)
    (λ c. search rules)
    (λ c. search record_read depth 8))
