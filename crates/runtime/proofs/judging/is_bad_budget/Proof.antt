-- Whether there is a budget, then whether it is sound.
use Rattle.refusal.specs.Cases.{cases}
use Rattle.runtime.specs.Rows.{bad_budget}
use Rattle.runtime.specs.RuntimeLaws.{sound_rows}
use borrow.Author.Rules.{rules}
use Rattle.runtime.proofs.judging.is_bad_budget.Statement.{statement}
use Rattle.runtime.proofs.judging.is_bad_budget.Tie as tie

pub is_bad_budget_spec : {M : Type 1} → statement M
unfolding bad_budget
is_bad_budget_spec =
    tie.close
    (tie.spec
    (λ c. search rules)
    (λ c. search (cases, sound_rows) depth 8)
    (λ c κs. search rules)
    (λ c κs. search rules)
    (λ c. search (cases, sound_rows) depth 8)
    (λ c. search (cases, sound_rows) depth 8))
