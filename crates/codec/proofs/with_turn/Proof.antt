-- The stores are at the words of this part alone, and the row has 32 words, so that each is made.
use Rattle.codec.specs.RowLaws.{turn_stored}
use Rattle.codec.specs.FrameLaws.{turn_framed}
use borrow.Author.Rules.{rules}
use Rattle.codec.proofs.with_turn.Statement.{statement}
use Rattle.codec.proofs.with_turn.Tie as tie

pub with_turn_spec : {M : Type 1} → statement M
with_turn_spec =
    tie.close
    (tie.spec
    (λ c. search rules)
    (λ c. (search turn_stored depth 8, search turn_framed depth 8)))
