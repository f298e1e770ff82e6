-- The rule, and the flag.
use Rattle.refusal.specs.Cases.{cases}
use Rattle.decisions.specs.Switch.{choose_ready}
use borrow.Author.Rules.{rules}
use Rattle.decisions.proofs.switching.choose_ready.Statement.{statement}
use Rattle.decisions.proofs.switching.choose_ready.Tie as tie

pub choose_ready_spec : {M : Type 1} → statement M
unfolding choose_ready
choose_ready_spec =
    tie.close
    (tie.spec
    (λ c κs. search rules)
    (λ c κs. search rules)
    (λ c. search cases depth 8))
