-- Each part's words stand for it.
use Rattle.policy_words.specs.PartLaws.{parts}
use borrow.Author.Rules.{rules}
use Rattle.policy_words.proofs.words_of_parameters.Statement.{statement}
use Rattle.policy_words.proofs.words_of_parameters.Tie as tie

pub words_of_parameters_spec : {M : Type 1} → statement M
words_of_parameters_spec =
    tie.close
    (tie.spec
    (λ c κs. search rules)
    (λ c κs. search rules)
    (λ c κs. search rules)
    (λ c κs. search rules)
    (λ c κs. search rules)
    (λ c κs. search rules)
    (λ c. search rules)
    (λ c. search rules)
    (λ c. search rules)
    (λ c. search rules)
    (λ c. search rules)
    (λ c. search rules)
    (λ c. search parts depth 8))
