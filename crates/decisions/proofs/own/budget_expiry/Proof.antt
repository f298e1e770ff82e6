-- The two ends, the first of which may not fit.
use Rattle.refusal.specs.Cases.{cases}
use Rattle.time.specs.TimeLaws.{times}
use Rattle.decisions.specs.OwnDeadline.{budget_expiry}
use borrow.Author.Rules.{rules}
use Rattle.decisions.proofs.own.budget_expiry.Statement.{statement}
use Rattle.decisions.proofs.own.budget_expiry.Tie as tie

pub budget_expiry_spec : {M : Type 1} → statement M
unfolding budget_expiry
budget_expiry_spec =
    tie.close
    (tie.spec
    (λ c κs. search rules)
    (λ c. search rules)
    (λ c. search rules)
    (λ c. search (cases, times) depth 8)
    (λ c κs. search rules)
    (λ c κs. search rules)
    (λ c. search (cases, times) depth 8))
