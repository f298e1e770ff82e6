-- The stores are at the words of this part alone, and the row has 32 words, so that each is made.
use Rattle.codec.specs.RowLaws.{left_stored_lem}
use Rattle.codec.specs.FrameLaws.{left_framed}
use borrow.Author.Rules.{rules}
use Rattle.codec.proofs.with_left.Statement.{statement}
use Rattle.codec.proofs.with_left.Tie as tie

pub with_left_spec : {M : Type 1} → statement M
with_left_spec =
    tie.close
    (tie.spec
    (λ c κs. search rules)
    (λ c. search rules)
    (λ c. search rules)
    (λ c. search rules)
    (λ c. search rules)
    (λ c. (search left_stored_lem depth 8, search left_framed depth 8)))
