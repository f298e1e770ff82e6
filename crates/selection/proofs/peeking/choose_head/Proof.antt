-- None, or the least under the window refreshed.
use Rattle.selection.specs.LookLaws.{choosing}
use borrow.Author.Rules.{rules}
use Rattle.selection.proofs.peeking.choose_head.Statement.{statement}
use Rattle.selection.proofs.peeking.choose_head.Tie as tie

pub choose_head_spec : {M : Type 1} → statement M
choose_head_spec =
    tie.close
    (tie.spec
    (λ c. search (choosing, rules) depth 8)
    (λ c κs. search rules)
    (λ c κs. search rules)
    (λ c. search (choosing, rules) depth 8))
