-- The refusal, or the store.
use Rattle.renewal.specs.RenewalLaws.{renewing}
use Rattle.renewal.specs.Steps.{refreshed_stored}
use Rattle.rows.specs.Frame.{framing}
use borrow.Author.Rules.{rules}
use Rattle.renewal.proofs.store_refreshed.Statement.{statement}
use Rattle.renewal.proofs.store_refreshed.Tie as tie

pub store_refreshed_spec : {M : Type 1} → statement M
unfolding refreshed_stored
store_refreshed_spec =
    tie.close
    (tie.spec
    (λ c. search rules)
    (λ c. search rules)
    (λ c κs. search rules)
    (λ c. (search renewing depth 8, search framing depth 8))
    (λ c. search rules)
    (λ c. (search renewing depth 8, search framing depth 8)))
