-- The stores are at the words of this part alone, and the row has 32 words, so that each is made.
use Rattle.codec.specs.RowLaws.{cpu_stored}
use borrow.Author.Rules.{rules}
use Rattle.codec.proofs.with_cpu.Statement.{statement}
use Rattle.codec.proofs.with_cpu.Tie as tie

pub with_cpu_spec : {M : Type 1} → statement M
with_cpu_spec =
    tie.close
    (tie.spec
    (λ c κs. search rules)
    (λ c. search rules)
    (λ c. search cpu_stored depth 8))
