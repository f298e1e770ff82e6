-- Whether anybody competes.
use Rattle.refusal.specs.Cases.{cases}
use Rattle.runtime.specs.Rows.{keyless_due}
use Rattle.runtime.proofs.deadlines.due_without.Statement.{statement}
use Rattle.runtime.proofs.deadlines.due_without.Tie as tie

pub due_without_spec : {M : Type 1} → statement M
unfolding keyless_due
due_without_spec =
    tie.close
    (tie.spec
    (λ c. search cases depth 8)
    (λ c. search cases depth 8))
