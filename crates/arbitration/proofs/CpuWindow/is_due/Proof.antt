use Rattle.time.specs.TimeLaws.{times}
use Rattle.arbitration.specs.Window.{due_at}
use borrow.Author.Rules.{rules}
use Rattle.arbitration.proofs.CpuWindow.is_due.Statement.{statement}
use Rattle.arbitration.proofs.CpuWindow.is_due.Tie as tie

pub is_due_spec : {M : Type 1} → statement M
unfolding due_at
is_due_spec =
    tie.close
    (tie.spec
    (λ c κs. search rules)
    (λ c. search rules)
    (λ c. search rules)
    (λ c. search times depth 8)
    (λ c. search times depth 8))
