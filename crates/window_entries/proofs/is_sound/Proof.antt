-- Each test that fails decides, and all that hold do.
use Rattle.window_entries.specs.SoundWords.{sound_words}
use borrow.Author.Rules.{rules}
use Rattle.window_entries.proofs.is_sound.Statement.{statement}
use Rattle.window_entries.proofs.is_sound.Tie as tie

pub is_sound_spec : {M : Type 1} → statement M
is_sound_spec =
    tie.close
    (tie.spec
    (λ c. search rules)
    (λ c. search rules)
    (λ c. search rules)
    (λ c. search rules)
    (λ c. search sound_words depth 8)
    (λ c. search rules)
    (λ c. search rules)
    (λ c. search rules)
    (λ c. search rules)
    (λ c. search sound_words depth 8)
    (λ c. search rules)
    (λ c. search rules)
    (λ c. search rules)
    (λ c. search rules)
    (λ c. search sound_words depth 8)
    (λ c. search rules)
    (λ c. search rules)
    (λ c. search sound_words depth 8)
    (λ c. search rules)
    (λ c. search sound_words depth 8)
    (λ c. search rules)
    (λ c. search rules)
    (λ c. search rules)
    (λ c. search rules)
    (λ c. search sound_words depth 8)
    (λ c. search rules)
    (λ c. search sound_words depth 8)
    (λ c. search sound_words depth 8))
