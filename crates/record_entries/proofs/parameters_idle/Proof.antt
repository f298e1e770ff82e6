-- What the constructor makes is stored.
use mathlib.Core.Path.{◌∙◌}
use borrow.Author.Rules.{rules}
use Rattle.record_entries.proofs.parameters_idle.Statement.{statement}
use Rattle.record_entries.proofs.parameters_idle.Tie as tie

pub parameters_idle_spec : {M : Type 1} → statement M
parameters_idle_spec =
    tie.close
    (tie.spec
    (λ c κs. search rules)
    (λ c κs. search rules)
    (λ c. search ◌∙◌))
