-- The calls stand in the order of the definition; the steps to the thread are still on the path after the replacement.
use Rattle.ready_index.specs.CasesLaws.{answers}
use Rattle.ready_index.specs.WaysLaws.{same_steps}
use Rattle.rows.specs.Frame.{framing}
use borrow.Author.Rules.{rules}
use Rattle.ready_index.proofs.remove_found.Statement.{statement}
use Rattle.ready_index.proofs.remove_found.Tie as tie

pub remove_found_spec : {M : Type 1} → statement M
remove_found_spec =
    tie.close
    (tie.spec
    (λ c κs. search rules)
    (λ c. search rules)
    (λ c. search rules)
    (λ c. search rules)
    (λ c. search rules)
    (λ c. (search answers depth 8, search framing depth 8))
    (λ c κs. search rules)
    (λ c. search rules)
    (λ c. search rules)
    (λ c. (search (answers, same_steps) depth 8, search framing depth 8)))
