-- The tests of the word stand in the definition's order.
use Rattle.refusal.specs.Cases.{cases}
use Rattle.window_words.specs.WindowWords.{mode_from}
use Rattle.window_words.proofs.mode_from.Statement.{statement}
use Rattle.window_words.proofs.mode_from.Tie as tie

pub mode_from_spec : {M : Type 1} → statement M
unfolding mode_from
mode_from_spec =
    tie.close
    (tie.spec
    (λ c. search cases depth 8)
    (λ c. search cases depth 8)
    (λ c. search cases depth 8)
    (λ c. search cases depth 8)
    (λ c. search cases depth 8))
