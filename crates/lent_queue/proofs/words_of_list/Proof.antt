-- The words of each part stand for it.
use Rattle.lent_queue.specs.LentLaws.{stores}
use borrow.Author.Rules.{rules}
use Rattle.lent_queue.proofs.words_of_list.Statement.{statement}
use Rattle.lent_queue.proofs.words_of_list.Tie as tie

pub words_of_list_spec : {M : Type 1} → statement M
words_of_list_spec =
    tie.close
    (tie.spec
    (λ c κs. search rules)
    (λ c κs. search rules)
    (λ c. search rules)
    (λ c. search rules)
    (λ c. search rules)
    (λ c. search rules)
    (λ c. (search stores depth 8, (search, search))))
