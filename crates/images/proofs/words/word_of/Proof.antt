-- Eight bytes, put together two by two.
use Rattle.images.specs.BytesLaws.{word_joined}
use borrow.Author.Rules.{rules}
use Rattle.images.proofs.words.word_of.Statement.{statement}
use Rattle.images.proofs.words.word_of.Tie as tie

pub word_of_spec : {M : Type 1} → statement M
word_of_spec =
    tie.close
    (tie.spec
    (λ c. search rules)
    (λ c. search rules)
    (λ c κs. search rules)
    (λ c. search rules)
    (λ c. search rules)
    (λ c κs. search rules)
    (λ c κs. search rules)
    (λ c. search rules)
    (λ c. search rules)
    (λ c κs. search rules)
    (λ c. search rules)
    (λ c. search rules)
    (λ c κs. search rules)
    (λ c κs. search rules)
    (λ c κs. search rules)
    (λ c. search word_joined))
