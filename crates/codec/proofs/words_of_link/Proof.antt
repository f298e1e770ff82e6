-- The words of each variant stand for it, and are its encoding.
use Rattle.codec.specs.PartLaws.{parts}
use Rattle.codec.specs.FrameLaws.{encodings}
use borrow.Author.Rules.{rules}
use Rattle.codec.proofs.words_of_link.Statement.{statement}
use Rattle.codec.proofs.words_of_link.Tie as tie

pub words_of_link_spec : {M : Type 1} → statement M
words_of_link_spec =
    tie.close
    (tie.spec
    (λ c. search rules)
    (λ c. search rules)
    (λ c. (search parts depth 8, search encodings depth 8))
    (λ c. (search parts depth 8, search encodings depth 8)))
