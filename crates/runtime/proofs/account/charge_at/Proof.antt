-- The runtime's tag, then the charge.
use Rattle.refusal.specs.Cases.{cases}
use Rattle.runtime.specs.Rows.{charged_row}
use Rattle.runtime.specs.RuntimeLaws.{budgets}
use Rattle.rows.specs.Unmoved.{unmoving}
use Rattle.runtime.specs.UnmovedLaws.{refusing}
use Rattle.rows.specs.Frame.{framing}
use borrow.Author.Rules.{rules}
use Rattle.runtime.proofs.account.charge_at.Statement.{statement}
use Rattle.runtime.proofs.account.charge_at.Tie as tie

pub charge_at_spec : {M : Type 1} → statement M
unfolding charged_row
charge_at_spec =
    tie.close
    (tie.spec
    (λ c. search rules)
    (λ c. search rules)
    (λ c. search rules)
    (λ c. search rules)
    (λ c. search rules)
    (λ c κs. search rules)
    (λ c κs. search rules)
    (λ c κs. search rules)
    (λ c κs. search rules)
    (λ c. search rules)
    (λ c. (
      search (cases, budgets, unmoving, refusing) depth 8,
      (search (cases, budgets, unmoving, refusing) depth 8, search framing depth 8),
    ))
    (λ c. (
      search (cases, budgets, unmoving, refusing) depth 8,
      (search (cases, budgets, unmoving, refusing) depth 8, search framing depth 8),
    )))
