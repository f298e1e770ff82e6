-- The stores are at the words of this part alone, and the row has 32 words, so that each is made.
use Rattle.codec.specs.RowLaws.{right_stored_lem}
use Rattle.codec.specs.FrameLaws.{right_framed}
use borrow.Author.Rules.{rules}
use Rattle.codec.proofs.with_right.Statement.{statement}
use Rattle.codec.proofs.with_right.Tie as tie

pub with_right_spec : {M : Type 1} → statement M
with_right_spec =
    tie.close
    (tie.spec
    (λ c κs. search rules)
    (λ c. search rules)
    (λ c. search rules)
    (λ c. search rules)
    (λ c. search rules)
    (λ c. (search right_stored_lem depth 8, search right_framed depth 8)))
