use Rattle.refusal.specs.Cases.{cases}
use Rattle.arbitration.specs.Calls.{judged, next_deadline_call}
use borrow.Author.Rules.{rules}
use Rattle.arbitration.proofs.CpuWindow.next_deadline.Statement.{statement}
use Rattle.arbitration.proofs.CpuWindow.next_deadline.Tie as tie

pub next_deadline_spec : {M : Type 1} → statement M
unfolding judged next_deadline_call
next_deadline_spec =
    tie.close
    (tie.spec
    (λ c κs. search rules)
    (λ c. search cases depth 8)
    (λ c κs. search rules)
    (λ c. search cases depth 8)
    (λ c κs. search rules)
    (λ c. search cases depth 8))
