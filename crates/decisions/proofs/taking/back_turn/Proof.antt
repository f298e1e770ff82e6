-- The test of the definition.
use Rattle.refusal.specs.Cases.{cases}
use Rattle.decisions.specs.Turns.{back_turn}
use borrow.Author.Rules.{rules}
use Rattle.decisions.proofs.taking.back_turn.Statement.{statement}
use Rattle.decisions.proofs.taking.back_turn.Tie as tie

pub back_turn_spec : {M : Type 1} → statement M
unfolding back_turn
back_turn_spec =
    tie.close
    (tie.spec
    (λ c. search rules)
    (λ c. search cases depth 8)
    (λ c. search cases depth 8))
