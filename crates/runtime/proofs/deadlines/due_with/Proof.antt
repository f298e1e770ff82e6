-- The thread's own, the window's, the earlier of the two.
use Rattle.runtime.specs.RuntimeLaws.{budgets}
use Rattle.rows.specs.Unmoved.{unmoving}
use Rattle.runtime.specs.UnmovedLaws.{refusing}
use Rattle.rows.specs.Frame.{framing}
use borrow.Author.Rules.{rules}
use Rattle.runtime.proofs.deadlines.due_with.Statement.{statement}
use Rattle.runtime.proofs.deadlines.due_with.Tie as tie

pub due_with_spec : {M : Type 1} → statement M
due_with_spec =
    tie.close
    (tie.spec
    (λ c κs. search rules)
    (λ c κs. search rules)
    (λ c κs. search rules)
    (λ c. search rules)
    (λ c. (
      search (budgets, unmoving, refusing) depth 8,
      (search (budgets, unmoving, refusing) depth 8, search framing depth 8),
    )))
