-- What the words of scheduling parameters, of a policy's runtime and of times stand for: some value, whatever the
-- words. A tag takes the first variant whose number it is and else the last variant; a byte is its word's remainder by
-- 256, a weight its word's by 65536.
use Rattle.std.specs.Prelude.{ℕ, ◌%◌, List, get_or, Option, Some, None}
use Rattle.refusal.specs.Cases.{given, if_equal}
use Rattle.policy.specs.declared.SchedulingPolicy.{SchedulingPolicy}
use Rattle.policy.specs.declared.SchedulingPolicy.TheVariants as policy
use Rattle.policy.specs.declared.SchedulingRole.{SchedulingRole}
use Rattle.policy.specs.declared.SchedulingRole.TheVariants as role
use Rattle.policy.specs.declared.FairBackend.{FairBackend}
use Rattle.policy.specs.declared.FairBackend.TheVariants as backend
use Rattle.policy.specs.declared.SchedulingParameters.{SchedulingParameters}
use Rattle.algorithms.specs.declared.PolicyRuntime.{PolicyRuntime}
use Rattle.algorithms.specs.declared.PolicyRuntime.TheVariants as runtime
use Rattle.policy.specs.declared.BudgetParameters.{BudgetParameters}

-- The k-th word.
abbrev pub word : List ℕ → ℕ → ℕ
word w k = get_or w k 0

-- How many words a thread's row has.
abbrev pub row_words : ℕ
row_words = 32

-- Where the words of parameters and of a policy's runtime stand in a thread's row.
abbrev pub policy_tag : ℕ
policy_tag = 0

abbrev pub fifo_priority : ℕ
fifo_priority = 1

abbrev pub band_word : ℕ
band_word = 2

abbrev pub role_tag : ℕ
role_tag = 3

abbrev pub weight_word : ℕ
weight_word = 4

abbrev pub quantum_word : ℕ
quantum_word = 5

abbrev pub backend_tag : ℕ
backend_tag = 6

abbrev pub budget_tag : ℕ
budget_tag = 7

abbrev pub budget_word : ℕ
budget_word = 8

abbrev pub budget_period : ℕ
budget_period = 9

abbrev pub budget_burst : ℕ
budget_burst = 10

abbrev pub runtime_tag : ℕ
runtime_tag = 11

abbrev pub runtime_first : ℕ
runtime_first = 12

abbrev pub runtime_second : ℕ
runtime_second = 13

abbrev pub runtime_third : ℕ
runtime_third = 14

abbrev pub runtime_fourth : ℕ
runtime_fourth = 15

-- 0 FIFO with its priority, 1 Fair, 2 Budget, else Idle.
unfoldable pub policy_from : ℕ → ℕ → SchedulingPolicy
policy_from tag priority =
    if_equal tag 0 (policy.Fifo (record { 0 = priority % 256 }))
    (if_equal tag 1 policy.Fair
    (if_equal tag 2 policy.Budget policy.Idle))

-- 0 Ordinary, 1 Priority, else Protected.
unfoldable pub role_from : ℕ → SchedulingRole
role_from tag = if_equal tag 0 role.Ordinary (if_equal tag 1 role.Priority role.Protected)

-- 0 Stride, else round robin.
unfoldable pub backend_from : ℕ → FairBackend
backend_from tag = if_equal tag 0 backend.Stride backend.RoundRobin

-- 0 none, else the budget, the period and the burst.
unfoldable pub budget_from : ℕ → ℕ → ℕ → ℕ → Option BudgetParameters
budget_from tag ns period burst =
    if_equal tag 0 None (Some (record { budget_ns = ns; period_ns = period; burst_ns = burst }))

-- 0 none, else the epoch.
unfoldable pub epoch_from : ℕ → ℕ → Option ℕ
epoch_from tag n = if_equal tag 0 None (Some n)

-- 0 FIFO; 1 Fair with the pass by its halves and the slice; 2 Budget with the epoch's two words, time and burst left;
-- else Idle.
unfoldable pub runtime_from : ℕ → ℕ → ℕ → ℕ → ℕ → PolicyRuntime
runtime_from tag first second third fourth =
    if_equal tag 0 runtime.Fifo
    (if_equal tag 1 (runtime.Fair (record { pass = record { high = first; low = second }; remaining_ns = third }))
    (if_equal tag 2 (given (epoch_from first second)
    (λ when. runtime.Budget (record { epoch = when; remaining_ns = third; burst_remaining_ns = fourth })))
    runtime.Idle))

-- Two words: 0 none, else the time.
unfoldable pub deadline_of : List ℕ → Option ℕ
deadline_of w = if_equal (word w 0) 0 None (Some (word w 1))

-- The words up to a budget's burst.
unfoldable pub parameters_of : List ℕ → SchedulingParameters
parameters_of w =
    record {
      policy = policy_from (word w policy_tag) (word w fifo_priority);
      band = record { 0 = word w band_word % 256 };
      role = role_from (word w role_tag);
      weight = record { 0 = word w weight_word % 65536 };
      quantum_ns = word w quantum_word;
      fair_backend = backend_from (word w backend_tag);
      budget = budget_from (word w budget_tag) (word w budget_word) (word w budget_period) (word w budget_burst);
    }

-- The words from the runtime's tag.
unfoldable pub runtime_of : List ℕ → PolicyRuntime
runtime_of w =
    runtime_from (word w runtime_tag) (word w runtime_first) (word w runtime_second) (word w runtime_third)
    (word w runtime_fourth)
