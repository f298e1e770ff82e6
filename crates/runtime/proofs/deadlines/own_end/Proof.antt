-- The runtime's tag.
use Rattle.refusal.specs.Cases.{cases}
use Rattle.runtime.specs.Rows.{own_end}
use Rattle.rows.specs.Frame.{framing}
use borrow.Author.Rules.{rules}
use Rattle.runtime.proofs.deadlines.own_end.Statement.{statement}
use Rattle.runtime.proofs.deadlines.own_end.Tie as tie

pub own_end_spec : {M : Type 1} → statement M
unfolding own_end
own_end_spec =
    tie.close
    (tie.spec
    (λ c. search rules)
    (λ c. search rules)
    (λ c. search rules)
    (λ c. search rules)
    (λ c. search rules)
    (λ c κs. search rules)
    (λ c. search rules)
    (λ c. (search cases depth 8, search framing depth 8))
    (λ c. search rules)
    (λ c. search rules)
    (λ c κs. search rules)
    (λ c. (search cases depth 8, search framing depth 8)))
