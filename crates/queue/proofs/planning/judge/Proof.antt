-- The five tests, in order.
use Rattle.refusal.specs.Cases.{cases}
use Rattle.thread.specs.FilingLaws.{filings}
use Rattle.lists.specs.ListsLaws.{row_reads}
use Rattle.queue.specs.PlanLaws.{plannings}
use Rattle.queue.specs.Plan.{judgement}
use borrow.Author.Rules.{rules}
use Rattle.queue.proofs.planning.judge.Statement.{statement}
use Rattle.queue.proofs.planning.judge.Tie as tie

pub judge_spec : {M : Type 1} → statement M
unfolding judgement
judge_spec =
    tie.close
    (tie.spec
    (λ c. search (cases, row_reads, filings, plannings) depth 8)
    (λ c. search (cases, row_reads, filings, plannings) depth 8)
    (λ c. search rules)
    (λ c. search rules)
    (λ c κs. search rules)
    (λ c. search (cases, row_reads, filings, plannings) depth 8)
    (λ c κs. search rules)
    (λ c. search rules)
    (λ c. search rules)
    (λ c κs. search rules)
    (λ c. search (cases, row_reads, filings, plannings) depth 8)
    (λ c. search (cases, row_reads, filings, plannings) depth 8)
    (λ c. search (cases, row_reads, filings, plannings) depth 8))
