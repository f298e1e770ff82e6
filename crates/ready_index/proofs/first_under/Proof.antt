-- An empty tree has none; else the way down decides.
use Rattle.ready_index.specs.AnswersLaws.{least_told}
use Rattle.ready_index.specs.CasesLaws.{answers}
use Rattle.ready_index.specs.Index.{first}
use borrow.Author.Rules.{rules}
use Rattle.ready_index.proofs.first_under.Statement.{statement}
use Rattle.ready_index.proofs.first_under.Tie as tie

pub first_under_spec : {M : Type 1} → statement M
unfolding first
first_under_spec =
    tie.close
    (tie.spec
    (λ c. search rules)
    (λ c. search rules)
    (λ c κs. search rules)
    (λ c. search (least_told, answers) depth 9)
    (λ c. search (least_told, answers) depth 9))
