-- Each root at its place.
use Rattle.renewal.specs.RenewalLaws.{one_role}
use Rattle.lent_queue.specs.FrameLaws.{roots_framing}
use borrow.Author.Rules.{rules}
use Rattle.renewal.proofs.store_trees.Statement.{statement}
use Rattle.renewal.proofs.store_trees.Tie as tie

pub store_trees_spec : {M : Type 1} → statement M
store_trees_spec =
    tie.close
    (tie.spec
    (λ c. search rules)
    (λ c κs. search rules)
    (λ c. search rules)
    (λ c κs. search rules)
    (λ c. search rules)
    (λ c. (search one_role depth 8, search roots_framing depth 8)))
