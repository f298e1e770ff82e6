-- Whatever the answer is, it is made of the same parts.
use Rattle.ready_index.specs.CasesLaws.{of_parts}
use borrow.Author.Rules.{rules}
use Rattle.ready_index.proofs.by_parts.Statement.{statement}
use Rattle.ready_index.proofs.by_parts.Tie as tie

pub by_parts_spec : {M : Type 1} → statement M
by_parts_spec =
    tie.close
    (tie.spec
    (λ c. search rules)
    (λ c. search rules)
    (λ c. search rules)
    (λ c. search rules)
    (λ c. search of_parts)
    (λ c. search of_parts)
    (λ c. search rules))
