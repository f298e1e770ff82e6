use Rattle.refusal.specs.Cases.{cases}
use Rattle.arbitration.specs.Calls.{judged, period_deadline_call}
use borrow.Author.Rules.{rules}
use Rattle.arbitration.proofs.CpuWindow.period_deadline.Statement.{statement}
use Rattle.arbitration.proofs.CpuWindow.period_deadline.Tie as tie

pub period_deadline_spec : {M : Type 1} → statement M
unfolding judged period_deadline_call
period_deadline_spec =
    tie.close
    (tie.spec
    (λ c κs. search rules)
    (λ c. search cases depth 8)
    (λ c κs. search rules)
    (λ c. search cases depth 8))
