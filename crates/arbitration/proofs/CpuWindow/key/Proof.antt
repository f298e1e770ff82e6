use Rattle.refusal.specs.Cases.{cases}
use Rattle.arbitration.specs.ArbitrationLaws.{modes}
use Rattle.arbitration.specs.Key.{exhausted_of, algorithm_of, key_of}
use borrow.Author.Rules.{rules}
use Rattle.arbitration.proofs.CpuWindow.key.Statement.{statement}
use Rattle.arbitration.proofs.CpuWindow.key.Tie as tie

pub key_spec : {M : Type 1} → statement M
unfolding key_of exhausted_of algorithm_of
key_spec =
    tie.close
    (tie.spec
    (λ c κs. search rules)
    (λ c. search (cases, modes) depth 8)
    (λ c κs. search rules)
    (λ c κs. search rules)
    (λ c. search (cases, modes) depth 8)
    (λ c κs. search rules)
    (λ c. search rules)
    (λ c. search rules)
    (λ c. search (cases, modes) depth 8)
    (λ c κs. search rules)
    (λ c. search (cases, modes) depth 8))
