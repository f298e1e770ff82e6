use Rattle.refusal.specs.Cases.{cases}
use Rattle.arbitration.specs.Window.{new_window}
use borrow.Author.Rules.{rules}
use Rattle.arbitration.proofs.CpuWindow.new.Statement.{statement}
use Rattle.arbitration.proofs.CpuWindow.new.Tie as tie

pub new_spec : {M : Type 1} → statement M
unfolding new_window
new_spec =
    tie.close
    (tie.spec
    (λ c κs. search rules)
    (λ c. search cases depth 8)
    (λ c. search cases depth 8))
