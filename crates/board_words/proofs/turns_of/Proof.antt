-- Both words are the definition's.
use Rattle.board_words.specs.BoardWords.{turns_of}
use borrow.Author.Rules.{rules}
use Rattle.board_words.proofs.turns_of.Statement.{statement}
use Rattle.board_words.proofs.turns_of.Tie as tie

pub turns_of_spec : {M : Type 1} → statement M
unfolding turns_of
turns_of_spec =
    tie.close
    (tie.spec
    (λ c. search rules)
    (λ c. search rules)
    (λ c. search))
