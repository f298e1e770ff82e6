-- The words of each variant stand for it, and are its encoding.
use Rattle.policy_words.specs.PartLaws.{parts}
use Rattle.policy_words.specs.EncodeLaws.{encodings}
use borrow.Author.Rules.{rules}
use Rattle.policy_words.proofs.words_of_runtime.Statement.{statement}
use Rattle.policy_words.proofs.words_of_runtime.Tie as tie

pub words_of_runtime_spec : {M : Type 1} → statement M
words_of_runtime_spec =
    tie.close
    (tie.spec
    (λ c. search rules)
    (λ c. search rules)
    (λ c. search rules)
    (λ c κs. search rules)
    (λ c. search rules)
    (λ c. search rules)
    (λ c. search rules)
    (λ c. (search parts depth 8, search encodings depth 8))
    (λ c. (search parts depth 8, search encodings depth 8))
    (λ c. (search parts depth 8, search encodings depth 8))
    (λ c. (search parts depth 8, search encodings depth 8)))
