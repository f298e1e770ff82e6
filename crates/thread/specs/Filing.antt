-- The tree that a record is filed in: "FIFO, Fair, Budget with time left and Budget exhausted, each by role". After
-- `index_for` of scheduler/queue.rs.
use Rattle.std.specs.Prelude.{ℕ, ◌+◌, Bool, true, false, Option, Some, None}
use Rattle.refusal.specs.Cases.{choose, given, if_equal}
use Rattle.policy.specs.declared.SchedulingParameters.{SchedulingParameters}
use Rattle.policy.specs.declared.SchedulingRole.{SchedulingRole}
use Rattle.policy.specs.PolicyCases.{on_policy, on_role}
use Rattle.algorithms.specs.declared.PolicyRuntime.{PolicyRuntime}
use Rattle.algorithms.specs.Runtime.{on_runtime}

-- A budget with time left. After `ReadySnapshot::budget_available`.
unfoldable pub budget_available_of : PolicyRuntime → Bool
budget_available_of r = on_runtime r false (λ fair. false) (λ b. if_equal b.remaining_ns 0 false true) false

unfoldable pub role_index : SchedulingRole → ℕ
role_index r = on_role r 0 1 2

-- The first tree of a kind; that of FIFO is 0. After `FAIR`, `BUDGET_READY` and `BUDGET_EXHAUSTED` of
-- scheduler/queue.rs.
abbrev pub fair_index : ℕ
fair_index = 3

abbrev pub budget_ready : ℕ
budget_ready = 6

abbrev pub budget_exhausted : ℕ
budget_exhausted = 9

-- FIFO 0 to 2, Fair 3 to 5, Budget with time left 6 to 8, exhausted 9 to 11, each by role; none for Idle.
-- (SPECIFICATION 5.3).
unfoldable pub index_for : SchedulingParameters → PolicyRuntime → Option ℕ
index_for p r =
    given (role_index p.role)
    (λ role. on_policy p.policy
    (λ priority. Some role)
    (Some (fair_index + role))
    (choose (budget_available_of r) (Some (budget_ready + role)) (Some (budget_exhausted + role)))
    None)

-- None first.
unfoldable pub on_index : {A : Type 0} → Option ℕ → A → (ℕ → A) → A
on_index None a f = a
on_index (Some n) a f = f n
