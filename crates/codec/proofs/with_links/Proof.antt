-- The stores are at the words of this part alone, and the row has 32 words, so that each is made.
use Rattle.codec.specs.RowLaws.{links_stored_lem}
use Rattle.codec.specs.FrameLaws.{links_framed}
use borrow.Author.Rules.{rules}
use Rattle.codec.proofs.with_links.Statement.{statement}
use Rattle.codec.proofs.with_links.Tie as tie

pub with_links_spec : {M : Type 1} → statement M
with_links_spec =
    tie.close
    (tie.spec
    (λ c κs. search rules)
    (λ c κs. search rules)
    (λ c κs. search rules)
    (λ c. search rules)
    (λ c. search rules)
    (λ c. search rules)
    (λ c. search rules)
    (λ c. search rules)
    (λ c. search rules)
    (λ c. search rules)
    (λ c. search rules)
    (λ c. search rules)
    (λ c. (search links_stored_lem depth 8, search links_framed depth 8)))
