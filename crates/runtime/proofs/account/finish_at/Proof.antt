-- The runtime's tag, then the burst.
use Rattle.runtime.specs.RuntimeLaws.{turns_end}
use Rattle.rows.specs.Frame.{framing}
use borrow.Author.Rules.{rules}
use Rattle.runtime.proofs.account.finish_at.Statement.{statement}
use Rattle.runtime.proofs.account.finish_at.Tie as tie

pub finish_at_spec : {M : Type 1} → statement M
finish_at_spec =
    tie.close
    (tie.spec
    (λ c. search rules)
    (λ c. search rules)
    (λ c. search rules)
    (λ c. search rules)
    (λ c. search rules)
    (λ c κs. search rules)
    (λ c. search rules)
    (λ c. search rules)
    (λ c. search rules)
    (λ c. (search turns_end depth 8, search framing depth 8))
    (λ c. (search turns_end depth 8, search framing depth 8)))
