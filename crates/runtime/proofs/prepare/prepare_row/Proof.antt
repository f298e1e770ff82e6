-- The membership, the turn, the store.
use Rattle.refusal.specs.Cases.{cases}
use Rattle.runtime.specs.Rows.{row_prepared}
use Rattle.runtime.specs.RuntimeLaws.{budgets}
use Rattle.rows.specs.Frame.{framing}
use borrow.Author.Rules.{rules}
use Rattle.runtime.proofs.prepare.prepare_row.Statement.{statement}
use Rattle.runtime.proofs.prepare.prepare_row.Tie as tie

pub prepare_row_spec : {M : Type 1} → statement M
unfolding row_prepared
prepare_row_spec =
    tie.close
    (tie.spec
    (λ c. search rules)
    (λ c. search rules)
    (λ c. search rules)
    (λ c. search rules)
    (λ c. search rules)
    (λ c κs. search rules)
    (λ c. search rules)
    (λ c κs. search rules)
    (λ c. search rules)
    (λ c. (search (cases, budgets) depth 8, (search (cases, budgets) depth 8, search framing depth 8)))
    (λ c. search rules)
    (λ c κs. search rules)
    (λ c. search rules)
    (λ c. (search (cases, budgets) depth 8, (search (cases, budgets) depth 8, search framing depth 8)))
    (λ c. (search (cases, budgets) depth 8, (search (cases, budgets) depth 8, search framing depth 8))))
