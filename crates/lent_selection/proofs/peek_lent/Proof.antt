-- The three tests, in order.
use Rattle.refusal.specs.Cases.{cases}
use Rattle.lent_selection.specs.LentParts.{peek_queue}
use Rattle.lent_selection.specs.LentLaws.{peeks, peeked_so}
use Rattle.lent_selection.specs.Early.{not_early}
use Rattle.rows.specs.Frame.{framing}
use Rattle.lent_queue.specs.FrameLaws.{queue_framing}
use borrow.Author.Rules.{rules}
use Rattle.lent_selection.proofs.peek_lent.Statement.{statement}
use Rattle.lent_selection.proofs.peek_lent.Tie as tie

pub peek_lent_spec : {M : Type 1} → statement M
unfolding peek_queue
peek_lent_spec =
    tie.close
    (tie.spec
    (λ c. (
      peeked_so _ _ _ _ _ _ (search (cases, peeks) depth 8),
      (search not_early, (search not_early, (search framing depth 8, search queue_framing depth 8))),
    ))
    (λ c κs. search rules)
    (λ c. (
      peeked_so _ _ _ _ _ _ (search (cases, peeks) depth 8),
      (search not_early, (search not_early, (search framing depth 8, search queue_framing depth 8))),
    ))
    (λ c κs. search rules)
    (λ c. (
      peeked_so _ _ _ _ _ _ (search (cases, peeks) depth 8),
      (search not_early, (search not_early, (search framing depth 8, search queue_framing depth 8))),
    ))
    (λ c κs. search rules)
    (λ c. search rules)
    (λ c. (
      peeked_so _ _ _ _ _ _ (search (cases, peeks) depth 8),
      (search not_early, (search not_early, (search framing depth 8, search queue_framing depth 8))),
    )))
