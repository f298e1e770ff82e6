use Rattle.arbitration.specs.ArbitrationLaws.{charged_parts}
use borrow.Author.Rules.{rules}
use Rattle.arbitration.proofs.CpuWindow.charged.Statement.{statement}
use Rattle.arbitration.proofs.CpuWindow.charged.Tie as tie

pub charged_spec : {M : Type 1} → statement M
charged_spec =
    tie.close
    (tie.spec
    (λ c κs. search rules)
    (λ c κs. search rules)
    (λ c κs. search rules)
    (λ c κs. search rules)
    (λ c κs. search rules)
    (λ c κs. search rules)
    (λ c κs. search rules)
    (λ c κs. search rules)
    (λ c. search charged_parts depth 8))
