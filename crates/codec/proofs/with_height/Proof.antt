-- The stores are at the words of this part alone, and the row has 32 words, so that each is made.
use Rattle.codec.specs.RowLaws.{height_stored_lem}
use Rattle.codec.specs.FrameLaws.{height_framed}
use borrow.Author.Rules.{rules}
use Rattle.codec.proofs.with_height.Statement.{statement}
use Rattle.codec.proofs.with_height.Tie as tie

pub with_height_spec : {M : Type 1} → statement M
with_height_spec =
    tie.close
    (tie.spec
    (λ c κs. search rules)
    (λ c. search rules)
    (λ c. (search height_stored_lem depth 8, search height_framed depth 8)))
