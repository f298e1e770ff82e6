-- The store is at the burst's word alone, and the row has 32 words, so that it is made.
use Rattle.runtime.specs.RuntimeLaws.{burst_stored}
use Rattle.codec.specs.FrameLaws.{burst_framed}
use borrow.Author.Rules.{rules}
use Rattle.runtime.proofs.account.with_burst.Statement.{statement}
use Rattle.runtime.proofs.account.with_burst.Tie as tie

pub with_burst_spec : {M : Type 1} → statement M
with_burst_spec =
    tie.close
    (tie.spec
    (λ c. search rules)
    (λ c. search rules)
    (λ c. (search burst_stored depth 8, search burst_framed depth 8)))
