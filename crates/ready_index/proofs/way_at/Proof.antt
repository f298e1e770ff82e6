-- The key is read and compared, then the links are read.
use Rattle.ready_index.specs.CasesLaws.{answers}
use Rattle.ready_index.specs.Index.{way_at}
use borrow.Author.Rules.{rules}
use Rattle.ready_index.proofs.way_at.Statement.{statement}
use Rattle.ready_index.proofs.way_at.Tie as tie

pub way_at_spec : {M : Type 1} → statement M
unfolding way_at
way_at_spec =
    tie.close
    (tie.spec
    (λ c κs. search rules)
    (λ c. search rules)
    (λ c. search rules)
    (λ c. search answers depth 8)
    (λ c κs. search rules)
    (λ c. search rules)
    (λ c κs. search rules)
    (λ c. search rules)
    (λ c. search rules)
    (λ c. search answers depth 8)
    (λ c. search rules)
    (λ c. search rules)
    (λ c κs. search rules)
    (λ c. search rules)
    (λ c. search rules)
    (λ c. search answers depth 8)
    (λ c. search answers depth 8)
    (λ c. search answers depth 8)
    (λ c. search answers depth 8))
