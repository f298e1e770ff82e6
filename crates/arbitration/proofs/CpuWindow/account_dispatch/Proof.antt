use Rattle.refusal.specs.Cases.{cases}
use Rattle.arbitration.specs.Calls.{judged, account_call}
use borrow.Author.Rules.{rules}
use Rattle.arbitration.proofs.CpuWindow.account_dispatch.Statement.{statement}
use Rattle.arbitration.proofs.CpuWindow.account_dispatch.Tie as tie

pub account_dispatch_spec : {M : Type 1} → statement M
unfolding judged account_call
account_dispatch_spec =
    tie.close
    (tie.spec
    (λ c κs. search rules)
    (λ c. search cases depth 8)
    (λ c. search cases depth 8)
    (λ c κs. search rules)
    (λ c. search cases depth 8))
