-- The key is read, and the way down decides.
use Rattle.ready_index.specs.AnswersLaws.{contained_told}
use Rattle.ready_index.specs.CasesLaws.{answers}
use Rattle.ready_index.specs.Index.{contains}
use borrow.Author.Rules.{rules}
use Rattle.ready_index.proofs.contains_under.Statement.{statement}
use Rattle.ready_index.proofs.contains_under.Tie as tie

pub contains_under_spec : {M : Type 1} → statement M
unfolding contains
contains_under_spec =
    tie.close
    (tie.spec
    (λ c κs. search rules)
    (λ c. search rules)
    (λ c. search rules)
    (λ c. search (contained_told, answers) depth 9)
    (λ c κs. search rules)
    (λ c. search (contained_told, answers) depth 9))
