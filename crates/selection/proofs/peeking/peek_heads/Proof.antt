-- What the running thread asks for, the heads, the least key.
use Rattle.refusal.specs.Cases.{cases}
use Rattle.lists.specs.ListsLaws.{listings}
use Rattle.selection.specs.PeekLaws.{peeking}
use Rattle.selection.specs.LookLaws.{looked_so}
use Rattle.selection.specs.HeadNumbers.{looked_numbers}
use Rattle.rows.specs.Frame.{framing}
use borrow.Author.Rules.{rules}
use Rattle.selection.proofs.peeking.peek_heads.Statement.{statement}
use Rattle.selection.proofs.peeking.peek_heads.Tie as tie

pub peek_heads_spec : {M : Type 1} → statement M
unfolding looked_numbers
peek_heads_spec =
    tie.close
    (tie.spec
    (λ c κs. search rules)
    (λ c. search rules)
    (λ c κs. search rules)
    (λ c. search rules)
    (λ c. search rules)
    (λ c. search rules)
    (λ c κs. search rules)
    (λ c. search rules)
    (λ c. (looked_so _ _ _ _ _ _ (search (cases, listings, peeking) depth 8), search framing depth 8))
    (λ c. search rules)
    (λ c. (looked_so _ _ _ _ _ _ (search (cases, listings, peeking) depth 8), search framing depth 8)))
