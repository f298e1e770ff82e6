-- The stores are at the words of this part alone, and the row has 32 words, so that each is made.
use Rattle.codec.specs.RowLaws.{queue_links_stored_lem}
use Rattle.codec.specs.FrameLaws.{queue_links_framed}
use borrow.Author.Rules.{rules}
use Rattle.codec.proofs.with_queue_links.Statement.{statement}
use Rattle.codec.proofs.with_queue_links.Tie as tie

pub with_queue_links_spec : {M : Type 1} → statement M
with_queue_links_spec =
    tie.close
    (tie.spec
    (λ c κs. search rules)
    (λ c κs. search rules)
    (λ c κs. search rules)
    (λ c. search rules)
    (λ c. search rules)
    (λ c. search rules)
    (λ c. search rules)
    (λ c. search rules)
    (λ c. search rules)
    (λ c. search rules)
    (λ c. search rules)
    (λ c. search rules)
    (λ c. search rules)
    (λ c. search rules)
    (λ c. search rules)
    (λ c. search rules)
    (λ c. search rules)
    (λ c. (search queue_links_stored_lem depth 8, search queue_links_framed depth 8)))
