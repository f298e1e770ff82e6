-- The runtime's tag, the refresh, the store.
use Rattle.refusal.specs.Cases.{cases}
use Rattle.runtime.specs.Rows.{refreshed_row}
use Rattle.runtime.specs.RuntimeLaws.{budgets}
use Rattle.rows.specs.Frame.{framing}
use borrow.Author.Rules.{rules}
use Rattle.runtime.proofs.account.refresh_at.Statement.{statement}
use Rattle.runtime.proofs.account.refresh_at.Tie as tie

pub refresh_at_spec : {M : Type 1} → statement M
unfolding refreshed_row
refresh_at_spec =
    tie.close
    (tie.spec
    (λ c. search rules)
    (λ c. search rules)
    (λ c. search rules)
    (λ c. search rules)
    (λ c. search rules)
    (λ c κs. search rules)
    (λ c κs. search rules)
    (λ c κs. search rules)
    (λ c. search rules)
    (λ c. (search (cases, budgets) depth 8, search framing depth 8))
    (λ c. search rules)
    (λ c κs. search rules)
    (λ c. search rules)
    (λ c. (search (cases, budgets) depth 8, search framing depth 8))
    (λ c. search rules)
    (λ c. (search (cases, budgets) depth 8, search framing depth 8))
    (λ c. (search (cases, budgets) depth 8, search framing depth 8)))
