use Rattle.refusal.specs.Cases.{cases}
use Rattle.arbitration.specs.Key.{strict_fifo, favoured, tier_of}
use borrow.Author.Rules.{rules}
use Rattle.arbitration.proofs.CpuWindow.tier.Statement.{statement}
use Rattle.arbitration.proofs.CpuWindow.tier.Tie as tie

pub tier_spec : {M : Type 1} → statement M
unfolding tier_of strict_fifo favoured
tier_spec =
    tie.close
    (tie.spec
    (λ c κs. search rules)
    (λ c. search cases depth 8)
    (λ c κs. search rules)
    (λ c κs. search rules)
    (λ c. search cases depth 8)
    (λ c. search cases depth 8)
    (λ c κs. search rules)
    (λ c. search cases depth 8)
    (λ c κs. search rules)
    (λ c. search cases depth 8))
