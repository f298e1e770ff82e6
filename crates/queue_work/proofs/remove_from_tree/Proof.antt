-- The tree, then the count, on the table that the tree left.
use Rattle.ready_index.specs.AnswersLaws.{rootings}
use Rattle.queue_work.specs.WorkLaws.{works, storing}
use Rattle.rows.specs.Frame.{framing}
use borrow.Author.Rules.{rules}
use Rattle.queue_work.proofs.remove_from_tree.Statement.{statement}
use Rattle.queue_work.proofs.remove_from_tree.Tie as tie

pub remove_from_tree_spec : {M : Type 1} → statement M
remove_from_tree_spec =
    tie.close
    (tie.spec
    (λ c κs. search rules)
    (λ c. search rules)
    (λ c. search rules)
    (λ c. search rules)
    (λ c. (search (rootings, works) depth 8, (search storing, search framing depth 8)))
    (λ c κs. search rules)
    (λ c. search rules)
    (λ c. (search (rootings, works) depth 8, (search storing, search framing depth 8))))
