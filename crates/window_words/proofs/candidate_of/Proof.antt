-- Every part is read from the definition's words.
use Rattle.window_words.specs.WordLaws.{candidate_read}
use borrow.Author.Rules.{rules}
use Rattle.window_words.proofs.candidate_of.Statement.{statement}
use Rattle.window_words.proofs.candidate_of.Tie as tie

pub candidate_of_spec : {M : Type 1} → statement M
candidate_of_spec =
    tie.close
    (tie.spec
    (λ c κs. search rules)
    (λ c. search rules)
    (λ c κs. search rules)
    (λ c. search rules)
    (λ c. search rules)
    (λ c. search rules)
    (λ c. search candidate_read depth 8))
