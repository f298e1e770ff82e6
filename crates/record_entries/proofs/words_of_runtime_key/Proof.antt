-- Every part is read from the definition's words.
use Rattle.record_entries.specs.EntryLaws.{entries}
use Rattle.record_entries.proofs.words_of_runtime_key.Statement.{statement}
use Rattle.record_entries.proofs.words_of_runtime_key.Tie as tie

pub words_of_runtime_key_spec : {M : Type 1} → statement M
words_of_runtime_key_spec =
    tie.close
    (tie.spec
    (λ c. search entries depth 8))
