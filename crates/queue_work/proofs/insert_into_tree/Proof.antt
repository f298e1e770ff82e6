-- The tree, then the count, on the table that the tree left.
use Rattle.ready_index.specs.AnswersLaws.{rootings}
use Rattle.queue_work.specs.WorkLaws.{works, storing}
use Rattle.rows.specs.Frame.{framing}
use borrow.Author.Rules.{rules}
use Rattle.queue_work.proofs.insert_into_tree.Statement.{statement}
use Rattle.queue_work.proofs.insert_into_tree.Tie as tie

pub insert_into_tree_spec : {M : Type 1} → statement M
insert_into_tree_spec =
    tie.close
    (tie.spec
    (λ c κs. search rules)
    (λ c. search rules)
    (λ c. search rules)
    (λ c. search rules)
    (λ c. (search (rootings, works) depth 8, (search storing, search framing depth 8)))
    (λ c κs. search rules)
    (λ c. search rules)
    (λ c. (search (rootings, works) depth 8, (search storing, search framing depth 8))))
