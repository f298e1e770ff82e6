-- Each arm is the definition's clause for its variant.
use Rattle.row_entries.specs.Words.{index_words}
use Rattle.row_entries.specs.WordsLaws.{wordings}
use borrow.Author.Rules.{rules}
use Rattle.row_entries.proofs.index_words.Statement.{statement}
use Rattle.row_entries.proofs.index_words.Tie as tie

pub index_words_spec : {M : Type 1} → statement M
unfolding index_words
index_words_spec =
    tie.close
    (tie.spec
    (λ c. search rules)
    (λ c κs. search rules)
    (λ c. search rules)
    (λ c κs. search rules)
    (λ c. search wordings depth 8)
    (λ c. search wordings depth 8))
