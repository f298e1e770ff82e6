-- The words of each variant stand for it.
use Rattle.policy_words.specs.PartLaws.{parts}
use borrow.Author.Rules.{rules}
use Rattle.policy_words.proofs.words_of_policy.Statement.{statement}
use Rattle.policy_words.proofs.words_of_policy.Tie as tie

pub words_of_policy_spec : {M : Type 1} → statement M
words_of_policy_spec =
    tie.close
    (tie.spec
    (λ c. search rules)
    (λ c κs. search rules)
    (λ c. search rules)
    (λ c. search rules)
    (λ c. search rules)
    (λ c. search parts depth 8)
    (λ c. search parts depth 8)
    (λ c. search parts depth 8)
    (λ c. search parts depth 8))
