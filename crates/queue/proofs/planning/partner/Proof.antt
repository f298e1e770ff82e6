-- The test of the definition; neither number leaves its range.
use Rattle.refusal.specs.Cases.{cases}
use Rattle.queue.specs.Queue.{partner}
use borrow.Author.Rules.{rules}
use Rattle.queue.proofs.planning.partner.Statement.{statement}
use Rattle.queue.proofs.planning.partner.Tie as tie

pub partner_spec : {M : Type 1} → statement M
unfolding partner
partner_spec =
    tie.close
    (tie.spec
    (λ c. search rules)
    (λ c. search cases depth 8)
    (λ c. search rules)
    (λ c. search cases depth 8))
