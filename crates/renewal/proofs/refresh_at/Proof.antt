-- The tags, then the budget's tag; the judgement alone where the tags differ.
use Rattle.renewal.specs.RenewalLaws.{by_tags}
use Rattle.rows.specs.Frame.{framing}
use borrow.Author.Rules.{rules}
use Rattle.renewal.proofs.refresh_at.Statement.{statement}
use Rattle.renewal.proofs.refresh_at.Tie as tie

pub refresh_at_spec : {M : Type 1} → statement M
refresh_at_spec =
    tie.close
    (tie.spec
    (λ c. search rules)
    (λ c. search rules)
    (λ c. search rules)
    (λ c. search rules)
    (λ c. search rules)
    (λ c. search rules)
    (λ c. search rules)
    (λ c. search rules)
    (λ c. search rules)
    (λ c. (search by_tags depth 8, search framing depth 8))
    (λ c. (search by_tags depth 8, search framing depth 8))
    (λ c κs. search rules)
    (λ c. search rules)
    (λ c. (search by_tags depth 8, search framing depth 8))
    (λ c. (search by_tags depth 8, search framing depth 8))
    (λ c. search rules)
    (λ c. search rules)
    (λ c κs. search rules)
    (λ c. (search by_tags depth 8, search framing depth 8))
    (λ c. (search by_tags depth 8, search framing depth 8)))
