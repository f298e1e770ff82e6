-- `PolicyRuntime`: a thread's algorithm state. After scheduler/algorithms/mod.rs.
use Rattle.std.specs.Prelude.{ℕ, Bool, eqb, Option, None}
use Rattle.refusal.specs.Answer.{Answer, value, refused, back_in_time, bad_record}
use Rattle.refusal.specs.Cases.{choose, given, if_less}
use Rattle.time.specs.Time.{checked_add}
use Rattle.policy.specs.declared.SchedulingParameters.{SchedulingParameters}
use Rattle.policy.specs.declared.SchedulingPolicy.{SchedulingPolicy}
use Rattle.policy.specs.declared.SchedulingPolicy.TheVariants as policy
use Rattle.policy.specs.PolicyCases.{on_policy, on_backend, on_budget}
use Rattle.budget.specs.declared.BudgetRuntime.{BudgetRuntime}
use Rattle.budget.specs.Runtime as budget
use Rattle.algorithms.specs.declared.Wide.{Wide}
use Rattle.algorithms.specs.declared.FairRuntime.{FairRuntime}
use Rattle.algorithms.specs.declared.PolicyRuntime.{PolicyRuntime}
use Rattle.algorithms.specs.declared.PolicyRuntime.TheVariants as runtime
use Rattle.algorithms.specs.declared.RuntimeKey.{RuntimeKey}
use Rattle.algorithms.specs.declared.Kind.{Kind}
use Rattle.algorithms.specs.declared.Kind.TheVariants as kind

-- FIFO, Fair, Budget, Idle.
unfoldable pub on_runtime : {A : Type 0} → PolicyRuntime → A → (FairRuntime → A) → (BudgetRuntime → A) → A → A
on_runtime runtime.Fifo fifo fair budgeted idle = fifo
on_runtime (runtime.Fair r) fifo fair budgeted idle = fair r
on_runtime (runtime.Budget r) fifo fair budgeted idle = budgeted r
on_runtime runtime.Idle fifo fair budgeted idle = idle

-- What a `BudgetRuntime` call answers, as a thread's runtime.
unfoldable pub of_budget : Answer BudgetRuntime → Answer PolicyRuntime
of_budget (value r) = value (runtime.Budget r)
of_budget (refused n) = refused n

unfoldable pub of_budget_deadline : Answer (BudgetRuntime × Option ℕ) → Answer (PolicyRuntime × Option ℕ)
of_budget_deadline (value r) = value (runtime.Budget r.0, r.1)
of_budget_deadline (refused n) = refused n

-- The runtime of the policy's kind; a Budget policy without a budget is a BadRecord.
unfoldable pub made : SchedulingParameters → FairRuntime → Answer PolicyRuntime
made p fair =
    on_policy p.policy
    (λ priority. value runtime.Fifo)
    (value (runtime.Fair fair))
    (on_budget p.budget (refused bad_record) (λ b. of_budget (budget.made b)))
    (value runtime.Idle)

-- BackInTime where the end lies before the start; else as it was.
unfoldable pub unless_back : PolicyRuntime → ℕ → ℕ → Answer PolicyRuntime
unless_back r start end = if_less end start (refused back_in_time) (value r)

-- FIFO, Fair, Budget and Idle as 0 to 3.
abbrev pub runtime_kind : PolicyRuntime → ℕ
runtime_kind runtime.Fifo = 0
runtime_kind (runtime.Fair r) = 1
runtime_kind (runtime.Budget r) = 2
runtime_kind runtime.Idle = 3

abbrev pub policy_kind : SchedulingPolicy → ℕ
policy_kind (policy.Fifo p) = 0
policy_kind policy.Fair = 1
policy_kind policy.Budget = 2
policy_kind policy.Idle = 3

abbrev pub kind_number : Kind → ℕ
kind_number kind.Fifo = 0
kind_number kind.Fair = 1
kind_number kind.Budget = 2
kind_number kind.Idle = 3

-- Whether the runtime is of the policy's kind.
unfoldable pub same_kind : PolicyRuntime → SchedulingPolicy → Bool
same_kind r p = eqb (runtime_kind r) (policy_kind p)

-- One execution interval closed: only a budget is charged. Policy and runtime of two kinds, or a budget that is
-- missing, are a BadRecord (SPECIFICATION 2.7).
unfoldable pub accounted : PolicyRuntime → SchedulingParameters → ℕ → ℕ → Answer PolicyRuntime
accounted r p start end =
    choose (same_kind r p.policy)
    (on_runtime r
    (unless_back r start end)
    (λ fair. unless_back r start end)
    (λ b. on_budget p.budget (refused bad_record) (λ q. of_budget (budget.accounted_interval b start end q)))
    (unless_back r start end))
    (refused bad_record)

-- A budget's runtime refreshed to now; every other is as it was.
unfoldable pub epoch_refreshed : PolicyRuntime → ℕ → SchedulingParameters → Answer PolicyRuntime
epoch_refreshed r now p =
    on_runtime r (value r) (λ fair. value r)
    (λ b. on_budget p.budget (value (runtime.Budget b)) (λ q. of_budget (budget.refreshed_judged b now q)))
    (value r)

abbrev pub zero_pass : Wide
zero_pass = record { high = 0; low = 0 }

-- The pass of a Stride thread's fair runtime, else 0; and the turn.
unfoldable pub candidate_key : PolicyRuntime → SchedulingParameters → ℕ → RuntimeKey
candidate_key r p turn =
    on_runtime r
    (record { pass = zero_pass; turn = turn })
    (λ fair. on_backend p.fair_backend (record { pass = fair.pass; turn = turn })
    (record { pass = zero_pass; turn = turn }))
    (λ b. record { pass = zero_pass; turn = turn })
    (record { pass = zero_pass; turn = turn })

-- The algorithm's own deadline: a fair slice's end, or a budget's, which is refreshed; none without competition.
unfoldable pub next_deadline : PolicyRuntime → ℕ → SchedulingParameters → Bool → Bool
    → Answer (PolicyRuntime × Option ℕ)
next_deadline r now p competition borrow =
    choose competition
    (on_runtime r
    (value (r, None))
    (λ fair. given (checked_add now fair.remaining_ns) (λ due. value (runtime.Fair fair, due)))
    (λ b. on_budget p.budget (value (runtime.Budget b, None))
    (λ q. of_budget_deadline (budget.deadline_judged b now q borrow)))
    (value (r, None)))
    (value (r, None))

-- A turn that ends opens a budget's burst again; every other runtime is as it was (SPECIFICATION 2.7).
unfoldable pub turn_finished : PolicyRuntime → SchedulingParameters → Answer PolicyRuntime
turn_finished r p =
    on_runtime r (value r) (λ fair. value r)
    (λ b. on_budget p.budget (value (runtime.Budget b)) (λ q. of_budget (budget.turn_finished b q)))
    (value r)
