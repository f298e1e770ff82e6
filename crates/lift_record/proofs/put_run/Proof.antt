-- Three words, one behind the other.
use native.Mathlib.Omega.{arith}
use Rattle.lift_record.specs.AnswerLaws.{second_inside, third_inside, run_put}
use borrow.Author.Rules.{rules}
use Rattle.lift_record.proofs.put_run.Statement.{statement}
use Rattle.lift_record.proofs.put_run.Tie as tie

pub put_run_spec : {M : Type 1} → statement M
put_run_spec =
    tie.close
    (tie.spec
    (λ c. omega arith)
    (λ c. omega arith)
    (λ c. omega arith)
    (λ c. omega arith)
    (λ c. omega arith)
    (λ c. omega arith)
    (λ c. search second_inside)
    (λ c. omega arith)
    (λ c. omega arith)
    (λ c. search third_inside)
    (λ c. search rules)
    (λ c. search run_put))
