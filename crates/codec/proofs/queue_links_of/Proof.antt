-- Every part is read from the definition's words.
use Rattle.codec.specs.RowLaws.{queue_links_read_lem}
use borrow.Author.Rules.{rules}
use Rattle.codec.proofs.queue_links_of.Statement.{statement}
use Rattle.codec.proofs.queue_links_of.Tie as tie

pub queue_links_of_spec : {M : Type 1} → statement M
queue_links_of_spec =
    tie.close
    (tie.spec
    (λ c. search rules)
    (λ c. search rules)
    (λ c κs. search rules)
    (λ c. search rules)
    (λ c. search rules)
    (λ c κs. search rules)
    (λ c. search rules)
    (λ c. search rules)
    (λ c. search rules)
    (λ c κs. search rules)
    (λ c. search queue_links_read_lem depth 8))
