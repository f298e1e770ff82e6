-- The refresh, then the ready tree.
use Rattle.lists.specs.ListsLaws.{listings}
use Rattle.ready_index.specs.AnswersLaws.{rootings}
use Rattle.renewal.specs.RenewalLaws.{renewing}
use Rattle.rows.specs.Frame.{framing}
use borrow.Author.Rules.{rules}
use Rattle.renewal.proofs.refile.Statement.{statement}
use Rattle.renewal.proofs.refile.Tie as tie

pub refile_spec : {M : Type 1} → statement M
refile_spec =
    tie.close
    (tie.spec
    (λ c κs. search rules)
    (λ c. search rules)
    (λ c. search rules)
    (λ c κs. search rules)
    (λ c. search rules)
    (λ c. search rules)
    (λ c. search rules)
    (λ c. (search (listings, rootings, renewing) depth 8, search framing depth 8))
    (λ c. search rules)
    (λ c. (search (listings, rootings, renewing) depth 8, search framing depth 8))
    (λ c. search rules)
    (λ c. (search (listings, rootings, renewing) depth 8, search framing depth 8)))
