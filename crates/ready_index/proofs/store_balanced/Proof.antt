-- The calls stand in the order of the definition.
use Rattle.ready_index.specs.CasesLaws.{answers}
use Rattle.rows.specs.Frame.{framing}
use borrow.Author.Rules.{rules}
use Rattle.ready_index.proofs.store_balanced.Statement.{statement}
use Rattle.ready_index.proofs.store_balanced.Tie as tie

pub store_balanced_spec : {M : Type 1} → statement M
store_balanced_spec =
    tie.close
    (tie.spec
    (λ c κs. search rules)
    (λ c. search rules)
    (λ c. search rules)
    (λ c. search rules)
    (λ c. (search answers depth 8, search framing depth 8))
    (λ c κs. search rules)
    (λ c. search rules)
    (λ c. search rules)
    (λ c. search rules)
    (λ c. (search answers depth 8, search framing depth 8))
    (λ c. search rules)
    (λ c. (search answers depth 8, search framing depth 8)))
