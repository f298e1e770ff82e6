-- The five words are the definition's.
use Rattle.policy_words.specs.PolicyWords.{runtime_of}
use borrow.Author.Rules.{rules}
use Rattle.policy_words.proofs.runtime_of.Statement.{statement}
use Rattle.policy_words.proofs.runtime_of.Tie as tie

pub runtime_of_spec : {M : Type 1} → statement M
unfolding runtime_of
runtime_of_spec =
    tie.close
    (tie.spec
    (λ c. search rules)
    (λ c. search rules)
    (λ c. search rules)
    (λ c. search rules)
    (λ c. search rules)
    (λ c κs. search rules)
    (λ c. search))
