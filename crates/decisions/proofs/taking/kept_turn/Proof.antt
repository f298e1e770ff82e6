-- The test of the definition.
use Rattle.refusal.specs.Cases.{cases}
use Rattle.decisions.specs.Turns.{kept_turn}
use borrow.Author.Rules.{rules}
use Rattle.decisions.proofs.taking.kept_turn.Statement.{statement}
use Rattle.decisions.proofs.taking.kept_turn.Tie as tie

pub kept_turn_spec : {M : Type 1} → statement M
unfolding kept_turn
kept_turn_spec =
    tie.close
    (tie.spec
    (λ c κs. search rules)
    (λ c. search cases depth 8)
    (λ c. search cases depth 8))
