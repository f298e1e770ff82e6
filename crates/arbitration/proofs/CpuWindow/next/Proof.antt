use Rattle.refusal.specs.Cases.{cases}
use Rattle.arbitration.specs.ArbitrationLaws.{modes}
use Rattle.arbitration.specs.Window.{next_deadline}
use borrow.Author.Rules.{rules}
use Rattle.arbitration.proofs.CpuWindow.next.Statement.{statement}
use Rattle.arbitration.proofs.CpuWindow.next.Tie as tie

pub next_spec : {M : Type 1} → statement M
unfolding next_deadline
next_spec =
    tie.close
    (tie.spec
    (λ c κs. search rules)
    (λ c κs. search rules)
    (λ c κs. search rules)
    (λ c. search rules)
    (λ c. search rules)
    (λ c κs. search rules)
    (λ c κs. search rules)
    (λ c κs. search rules)
    (λ c. search rules)
    (λ c κs. search rules)
    (λ c κs. search rules)
    (λ c. search rules)
    (λ c κs. search rules)
    (λ c. search rules)
    (λ c κs. search rules)
    (λ c. search (cases, modes) depth 8)
    (λ c. search (cases, modes) depth 8)
    (λ c. search (cases, modes) depth 8)
    (λ c. search (cases, modes) depth 8)
    (λ c. search (cases, modes) depth 8))
