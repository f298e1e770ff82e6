-- The test.
use Rattle.refusal.specs.Cases.{cases}
use Rattle.selection.specs.HeadNumbers.{same_byte}
use borrow.Author.Rules.{rules}
use Rattle.selection.proofs.choosing.same_byte.Statement.{statement}
use Rattle.selection.proofs.choosing.same_byte.Tie as tie

pub same_byte_spec : {M : Type 1} → statement M
unfolding same_byte
same_byte_spec =
    tie.close
    (tie.spec
    (λ c. search cases depth 8)
    (λ c. search cases depth 8))
