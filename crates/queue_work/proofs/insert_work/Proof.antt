-- The total, the list and the tree, in order.
use Rattle.queue_work.specs.WorkLaws.{works, storing}
use Rattle.queue_work.specs.Work.{insert_work, push_at}
use Rattle.rows.specs.Frame.{framing}
use borrow.Author.Rules.{rules}
use Rattle.queue_work.proofs.insert_work.Statement.{statement}
use Rattle.queue_work.proofs.insert_work.Tie as tie

pub insert_work_spec : {M : Type 1} → statement M
unfolding insert_work push_at
insert_work_spec =
    tie.close
    (tie.spec
    (λ c κs. search rules)
    (λ c. search rules)
    (λ c. search rules)
    (λ c κs. search rules)
    (λ c. search rules)
    (λ c. search rules)
    (λ c κs. search rules)
    (λ c. (search (works) depth 8, (search storing, search framing depth 8)))
    (λ c. search rules)
    (λ c. (search (works) depth 8, (search storing, search framing depth 8)))
    (λ c. search rules)
    (λ c. (search (works) depth 8, (search storing, search framing depth 8))))
