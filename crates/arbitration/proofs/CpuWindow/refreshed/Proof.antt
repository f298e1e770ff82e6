use Rattle.refusal.specs.Cases.{cases}
use Rattle.arbitration.specs.Window.{refreshed}
use borrow.Author.Rules.{rules}
use Rattle.arbitration.proofs.CpuWindow.refreshed.Statement.{statement}
use Rattle.arbitration.proofs.CpuWindow.refreshed.Tie as tie

pub refreshed_spec : {M : Type 1} → statement M
unfolding refreshed
refreshed_spec =
    tie.close
    (tie.spec
    (λ c κs. search rules)
    (λ c κs. search rules)
    (λ c. search cases depth 8)
    (λ c. search cases depth 8))
