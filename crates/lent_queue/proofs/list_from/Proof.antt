-- Every part is read from the definition's words.
use Rattle.lent_queue.specs.LentLaws.{list_made}
use borrow.Author.Rules.{rules}
use Rattle.lent_queue.proofs.list_from.Statement.{statement}
use Rattle.lent_queue.proofs.list_from.Tie as tie

pub list_from_spec : {M : Type 1} → statement M
list_from_spec =
    tie.close
    (tie.spec
    (λ c. search rules)
    (λ c. search rules)
    (λ c κs. search rules)
    (λ c. search rules)
    (λ c. search rules)
    (λ c κs. search rules)
    (λ c. search rules)
    (λ c. search list_made depth 8))
