-- The words of each variant stand for it.
use Rattle.policy_words.specs.PartLaws.{parts}
use borrow.Author.Rules.{rules}
use Rattle.policy_words.proofs.word_of_backend.Statement.{statement}
use Rattle.policy_words.proofs.word_of_backend.Tie as tie

pub word_of_backend_spec : {M : Type 1} → statement M
word_of_backend_spec =
    tie.close
    (tie.spec
    (λ c. search rules)
    (λ c. search rules)
    (λ c. search parts depth 8)
    (λ c. search parts depth 8))
