-- Every part is read from the definition's words.
use Rattle.codec.specs.RowLaws.{links_read}
use borrow.Author.Rules.{rules}
use Rattle.codec.proofs.links_of.Statement.{statement}
use Rattle.codec.proofs.links_of.Tie as tie

pub links_of_spec : {M : Type 1} → statement M
links_of_spec =
    tie.close
    (tie.spec
    (λ c. search rules)
    (λ c. search rules)
    (λ c κs. search rules)
    (λ c. search rules)
    (λ c. search rules)
    (λ c κs. search rules)
    (λ c. search rules)
    (λ c κs. search rules)
    (λ c. search links_read depth 8))
