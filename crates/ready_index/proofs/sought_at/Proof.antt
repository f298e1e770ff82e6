-- The links are read, then the key is read and compared.
use Rattle.ready_index.specs.CasesLaws.{answers}
use Rattle.ready_index.specs.Index.{sought_at}
use borrow.Author.Rules.{rules}
use Rattle.ready_index.proofs.sought_at.Statement.{statement}
use Rattle.ready_index.proofs.sought_at.Tie as tie

pub sought_at_spec : {M : Type 1} → statement M
unfolding sought_at
sought_at_spec =
    tie.close
    (tie.spec
    (λ c κs. search rules)
    (λ c. search rules)
    (λ c. search rules)
    (λ c. search answers depth 8)
    (λ c κs. search rules)
    (λ c. search rules)
    (λ c. search rules)
    (λ c. search answers depth 8)
    (λ c κs. search rules)
    (λ c. search rules)
    (λ c. search rules)
    (λ c. search answers depth 8)
    (λ c. search rules)
    (λ c. search answers depth 8)
    (λ c. search answers depth 8)
    (λ c. search answers depth 8))
