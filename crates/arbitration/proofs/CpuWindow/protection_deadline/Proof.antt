use Rattle.refusal.specs.Cases.{cases}
use Rattle.arbitration.specs.Calls.{judged, protection_call}
use borrow.Author.Rules.{rules}
use Rattle.arbitration.proofs.CpuWindow.protection_deadline.Statement.{statement}
use Rattle.arbitration.proofs.CpuWindow.protection_deadline.Tie as tie

pub protection_deadline_spec : {M : Type 1} → statement M
unfolding judged protection_call
protection_deadline_spec =
    tie.close
    (tie.spec
    (λ c κs. search rules)
    (λ c. search cases depth 8)
    (λ c κs. search rules)
    (λ c κs. search rules)
    (λ c. search cases depth 8))
