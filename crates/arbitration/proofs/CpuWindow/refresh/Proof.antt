use Rattle.refusal.specs.Cases.{cases}
use Rattle.arbitration.specs.Calls.{judged, refresh_call}
use borrow.Author.Rules.{rules}
use Rattle.arbitration.proofs.CpuWindow.refresh.Statement.{statement}
use Rattle.arbitration.proofs.CpuWindow.refresh.Tie as tie

pub refresh_spec : {M : Type 1} → statement M
unfolding judged refresh_call
refresh_spec =
    tie.close
    (tie.spec
    (λ c κs. search rules)
    (λ c. search cases depth 8)
    (λ c κs. search rules)
    (λ c. search cases depth 8))
