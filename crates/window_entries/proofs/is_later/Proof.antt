-- The words stand for the epoch that is compared.
use borrow.Author.Rules.{rules}
use Rattle.window_entries.proofs.is_later.Statement.{statement}
use Rattle.window_entries.proofs.is_later.Tie as tie

pub is_later_spec : {M : Type 1} → statement M
is_later_spec =
    tie.close
    (tie.spec
    (λ c. search rules)
    (λ c. search rules)
    (λ c κs. search rules)
    (λ c κs. search rules)
    (λ c. cc))
