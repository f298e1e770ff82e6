-- By the policy's tag; a role is at most 2, so the tree's number is a word.
use native.Mathlib.Omega.{arith}
use Rattle.refusal.specs.Cases.{cases}
use Rattle.queue.specs.RowJudgement.{index_row, role_fits, by_tags}
use Rattle.queue.proofs.judging.index_of_row.Goals as goal

pub returns-then-policy-eq0 : goal.returns-then-policy-eq0
unfolding index_row
returns-then-policy-eq0 c = search (cases, by_tags) depth 8

pub overflow_add-result : goal.overflow_add-result
unfolding index_row
overflow_add-result c = record { fits = role_fits _ _ c.role_number-role.ensures (omega arith) }

pub returns-then-policy-eq1 : goal.returns-then-policy-eq1
unfolding index_row
returns-then-policy-eq1 c = search (cases, by_tags) depth 8

pub overflow_add-result-then-has_time_left : goal.overflow_add-result-then-has_time_left
unfolding index_row
overflow_add-result-then-has_time_left c = record {
  fits = role_fits _ _ c.role_number-role.ensures
      (omega arith);
}

pub returns-then-has_time_left : goal.returns-then-has_time_left
unfolding index_row
returns-then-has_time_left c = search (cases, by_tags) depth 8

pub overflow_add-result-then-policy-eq2 : goal.overflow_add-result-then-policy-eq2
unfolding index_row
overflow_add-result-then-policy-eq2 c = record {
  fits = role_fits _ _ c.role_number-role.ensures
      (omega arith);
}

pub returns-then-policy-eq2 : goal.returns-then-policy-eq2
unfolding index_row
returns-then-policy-eq2 c = search (cases, by_tags) depth 8

pub returns : goal.returns
unfolding index_row
returns c = search (cases, by_tags) depth 8
