-- What the readers give is stored.
use mathlib.Core.Path.{◌∙◌}
use borrow.Author.Rules.{rules}
use Rattle.record_entries.proofs.parameters_read.Statement.{statement}
use Rattle.record_entries.proofs.parameters_read.Tie as tie

pub parameters_read_spec : {M : Type 1} → statement M
parameters_read_spec =
    tie.close
    (tie.spec
    (λ c κs. search rules)
    (λ c κs. search rules)
    (λ c. search ◌∙◌))
