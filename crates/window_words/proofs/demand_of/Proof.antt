-- Every part is read from the definition's words.
use Rattle.window_words.specs.WordLaws.{demand_read}
use borrow.Author.Rules.{rules}
use Rattle.window_words.proofs.demand_of.Statement.{statement}
use Rattle.window_words.proofs.demand_of.Tie as tie

pub demand_of_spec : {M : Type 1} → statement M
demand_of_spec =
    tie.close
    (tie.spec
    (λ c. search rules)
    (λ c κs. search rules)
    (λ c. search rules)
    (λ c κs. search rules)
    (λ c. search rules)
    (λ c κs. search rules)
    (λ c. search rules)
    (λ c κs. search rules)
    (λ c. search rules)
    (λ c κs. search rules)
    (λ c. search demand_read depth 8))
