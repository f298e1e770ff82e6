-- The key is read, and the whole path is lent.
use Rattle.ready_index.specs.AnswersLaws.{rooted_told}
use Rattle.ready_index.specs.CasesLaws.{answers}
use Rattle.ready_index.specs.Index.{remove}
use Rattle.ready_index.specs.WaysLaws.{remove_lent}
use Rattle.rows.specs.Frame.{framing}
use borrow.Author.Rules.{rules}
use Rattle.ready_index.proofs.remove_under.Statement.{statement}
use Rattle.ready_index.proofs.remove_under.Tie as tie

pub remove_under_spec : {M : Type 1} → statement M
unfolding remove
remove_under_spec =
    tie.close
    (tie.spec
    (λ c κs. search rules)
    (λ c. search rules)
    (λ c. search rules)
    (λ c. search rules)
    (λ c. (search (rooted_told, answers) depth 9, search framing depth 8))
    (λ c κs. search rules)
    (λ c. search rules)
    (λ c. (search (rooted_told, answers, remove_lent) depth 9, search framing depth 8)))
