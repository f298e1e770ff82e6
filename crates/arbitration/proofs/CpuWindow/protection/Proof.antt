use Rattle.refusal.specs.Cases.{cases}
use Rattle.time.specs.TimeLaws.{times}
use Rattle.arbitration.specs.Window.{protection_deadline}
use borrow.Author.Rules.{rules}
use Rattle.arbitration.proofs.CpuWindow.protection.Statement.{statement}
use Rattle.arbitration.proofs.CpuWindow.protection.Tie as tie

pub protection_spec : {M : Type 1} → statement M
unfolding protection_deadline
protection_spec =
    tie.close
    (tie.spec
    (λ c. search (cases, times) depth 8)
    (λ c. search (cases, times) depth 8)
    (λ c κs. search rules)
    (λ c. search rules)
    (λ c. search rules)
    (λ c. search (cases, times) depth 8)
    (λ c κs. search rules)
    (λ c κs. search rules)
    (λ c. search (cases, times) depth 8))
