use Rattle.refusal.specs.Cases.{cases}
use Rattle.arbitration.specs.Calls.{judged, key_call}
use borrow.Author.Rules.{rules}
use Rattle.arbitration.proofs.CpuWindow.candidate_key.Statement.{statement}
use Rattle.arbitration.proofs.CpuWindow.candidate_key.Tie as tie

pub candidate_key_spec : {M : Type 1} → statement M
unfolding judged key_call
candidate_key_spec =
    tie.close
    (tie.spec
    (λ c κs. search rules)
    (λ c. search cases depth 8)
    (λ c κs. search rules)
    (λ c κs. search rules)
    (λ c. search cases depth 8))
