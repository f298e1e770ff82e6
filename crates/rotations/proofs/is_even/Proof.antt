-- One test for each side.
use Rattle.refusal.specs.Cases.{cases}
use Rattle.rotations.specs.InPlace.{is_even}
use borrow.Author.Rules.{rules}
use Rattle.rotations.proofs.is_even.Statement.{statement}
use Rattle.rotations.proofs.is_even.Tie as tie

pub is_even_spec : {M : Type 1} → statement M
unfolding is_even
is_even_spec =
    tie.close
    (tie.spec
    (λ c. search rules)
    (λ c. search cases depth 8)
    (λ c. search rules)
    (λ c. search cases depth 8)
    (λ c. search cases depth 8))
