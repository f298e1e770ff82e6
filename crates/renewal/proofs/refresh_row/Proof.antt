-- The judgement, then the budget's tag.
use Rattle.refusal.specs.Cases.{cases}
use Rattle.renewal.specs.RenewalLaws.{renewing}
use Rattle.renewal.specs.Steps.{row_refreshed}
use Rattle.rows.specs.Frame.{framing}
use borrow.Author.Rules.{rules}
use Rattle.renewal.proofs.refresh_row.Statement.{statement}
use Rattle.renewal.proofs.refresh_row.Tie as tie

pub refresh_row_spec : {M : Type 1} → statement M
unfolding row_refreshed
refresh_row_spec =
    tie.close
    (tie.spec
    (λ c κs. search rules)
    (λ c. (search (cases, renewing) depth 8, search framing depth 8))
    (λ c. search rules)
    (λ c. (search (cases, renewing) depth 8, search framing depth 8))
    (λ c κs. search rules)
    (λ c. search rules)
    (λ c. (search (cases, renewing) depth 8, search framing depth 8)))
