-- The two differences and the test on each are the definition's own.
use Rattle.refusal.specs.Cases.{cases}
use Rattle.avl.specs.Rotation.{lean_of}
use borrow.Author.Rules.{rules}
use Rattle.avl.proofs.lean_of.Statement.{statement}
use Rattle.avl.proofs.lean_of.Tie as tie

pub lean_of_spec : {M : Type 1} → statement M
unfolding lean_of
lean_of_spec =
    tie.close
    (tie.spec
    (λ c. search rules)
    (λ c. search cases depth 6)
    (λ c. search cases depth 6)
    (λ c. search cases depth 6)
    (λ c. search cases depth 6))
