-- The test of the definition.
use Rattle.refusal.specs.Cases.{cases}
use Rattle.decisions.specs.Turns.{front_turn}
use borrow.Author.Rules.{rules}
use Rattle.decisions.proofs.taking.front_turn.Statement.{statement}
use Rattle.decisions.proofs.taking.front_turn.Tie as tie

pub front_turn_spec : {M : Type 1} → statement M
unfolding front_turn
front_turn_spec =
    tie.close
    (tie.spec
    (λ c. search rules)
    (λ c. search cases depth 8)
    (λ c. search cases depth 8))
