-- By the first word.
use Rattle.refusal.specs.Cases.{cases}
use Rattle.board_words.specs.WordLaws.{word_laws}
use Rattle.board_words.specs.BoardWords.{ready_key_of}
use borrow.Author.Rules.{rules}
use Rattle.board_words.proofs.ready_key_of.Statement.{statement}
use Rattle.board_words.proofs.ready_key_of.Tie as tie

pub ready_key_of_spec : {M : Type 1} → statement M
unfolding ready_key_of
ready_key_of_spec =
    tie.close
    (tie.spec
    (λ c. search rules)
    (λ c. search (cases, word_laws) depth 8)
    (λ c κs. search rules)
    (λ c. search (cases, word_laws) depth 8))
