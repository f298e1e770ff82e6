-- Only the thread itself is found here.
use Rattle.ready_index.specs.CasesLaws.{answers}
use Rattle.ready_index.specs.Path.{last_sought}
use borrow.Author.Rules.{rules}
use Rattle.ready_index.proofs.last_sought.Statement.{statement}
use Rattle.ready_index.proofs.last_sought.Tie as tie

pub last_sought_spec : {M : Type 1} → statement M
unfolding last_sought
last_sought_spec =
    tie.close
    (tie.spec
    (λ c. search rules)
    (λ c. search rules)
    (λ c. search answers depth 8)
    (λ c κs. search rules)
    (λ c. search rules)
    (λ c. search rules)
    (λ c. search rules)
    (λ c. search rules)
    (λ c. search answers depth 8)
    (λ c. search answers depth 8)
    (λ c. search answers depth 8)
    (λ c. search answers depth 8))
