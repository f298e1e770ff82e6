-- The key is that of the parts which the row's record has.
use Rattle.codec.specs.RowLaws.{key_read}
use borrow.Author.Rules.{rules}
use Rattle.codec.proofs.key_of.Statement.{statement}
use Rattle.codec.proofs.key_of.Tie as tie

pub key_of_spec : {M : Type 1} → statement M
key_of_spec =
    tie.close
    (tie.spec
    (λ c κs. search rules)
    (λ c. search rules)
    (λ c κs. search rules)
    (λ c. search rules)
    (λ c. search key_read depth 8))
