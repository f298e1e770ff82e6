-- The refresh, then the turn.
use Rattle.runtime.specs.RuntimeLaws.{budgets}
use Rattle.rows.specs.Frame.{framing}
use borrow.Author.Rules.{rules}
use Rattle.runtime.proofs.prepare.store_prepared.Statement.{statement}
use Rattle.runtime.proofs.prepare.store_prepared.Tie as tie

pub store_prepared_spec : {M : Type 1} → statement M
store_prepared_spec =
    tie.close
    (tie.spec
    (λ c κs. search rules)
    (λ c κs. search rules)
    (λ c. search rules)
    (λ c. (search budgets depth 8, search framing depth 8)))
