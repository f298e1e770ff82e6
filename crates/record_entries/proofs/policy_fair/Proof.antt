-- What the constructor makes is stored.
use mathlib.Core.Path.{◌∙◌}
use borrow.Author.Rules.{rules}
use Rattle.record_entries.proofs.policy_fair.Statement.{statement}
use Rattle.record_entries.proofs.policy_fair.Tie as tie

pub policy_fair_spec : {M : Type 1} → statement M
policy_fair_spec =
    tie.close
    (tie.spec
    (λ c κs. search rules)
    (λ c κs. search rules)
    (λ c. search ◌∙◌))
