-- The stores are at the words of this part alone, and the row has 32 words, so that each is made.
use Rattle.codec.specs.RowLaws.{runtime_stored_lem}
use Rattle.codec.specs.FrameLaws.{runtime_framed}
use borrow.Author.Rules.{rules}
use Rattle.codec.proofs.with_runtime.Statement.{statement}
use Rattle.codec.proofs.with_runtime.Tie as tie

pub with_runtime_spec : {M : Type 1} → statement M
with_runtime_spec =
    tie.close
    (tie.spec
    (λ c κs. search rules)
    (λ c. search rules)
    (λ c. search rules)
    (λ c. search rules)
    (λ c. search rules)
    (λ c. search rules)
    (λ c. search rules)
    (λ c. search rules)
    (λ c. search rules)
    (λ c. search rules)
    (λ c. search rules)
    (λ c. (search runtime_stored_lem depth 8, search runtime_framed depth 8)))
