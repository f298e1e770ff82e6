-- The class that a tree is of: policy, role, and of a budget whether it has time left. Two records of one class.
use Rattle.std.specs.Prelude.{ℕ, ◌+◌, ◌≡◌, true, false}
use Rattle.policy.specs.declared.SchedulingPolicy.TheVariants as policy
use Rattle.policy.specs.declared.ThreadPriority.{ThreadPriority}
use Rattle.thread.specs.declared.ThreadRecord.{ThreadRecord}
use Rattle.thread.specs.Filing.{budget_available_of, role_index, budget_exhausted, budget_ready, fair_index}

pub data Class (k : ℕ) (r : ThreadRecord) : Type 0 where
  fifo_class : (p : ThreadPriority) → r.parameters.policy ≡ policy.Fifo p → k ≡ role_index r.parameters.role
      → Class k r
  fair_class : r.parameters.policy ≡ policy.Fair → k ≡ fair_index + role_index r.parameters.role → Class k r
  ready_class : r.parameters.policy ≡ policy.Budget → budget_available_of r.runtime ≡ true
      → k ≡ budget_ready + role_index r.parameters.role → Class k r
  exhausted_class : r.parameters.policy ≡ policy.Budget → budget_available_of r.runtime ≡ false
      → k ≡ budget_exhausted + role_index r.parameters.role → Class k r

-- Of one kind and role, and of budgets both with time left or both without.
pub data Alike (a b : ThreadRecord) : Type 0 where
  both_fifo : (p q : ThreadPriority) → a.parameters.policy ≡ policy.Fifo p → b.parameters.policy ≡ policy.Fifo q
      → a.parameters.role ≡ b.parameters.role → Alike a b
  both_fair : a.parameters.policy ≡ policy.Fair → b.parameters.policy ≡ policy.Fair
      → a.parameters.role ≡ b.parameters.role → Alike a b
  both_budget : a.parameters.policy ≡ policy.Budget → b.parameters.policy ≡ policy.Budget
      → a.parameters.role ≡ b.parameters.role
      → budget_available_of a.runtime ≡ budget_available_of b.runtime → Alike a b
