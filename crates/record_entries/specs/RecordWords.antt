-- What the words of a budget, of its runtime and of the answers about parameters and runtimes stand for.
use Rattle.std.specs.Prelude.{ℕ, ◌%◌, List, [], ◌∷◌, Option, Some, None}
use Rattle.refusal.specs.Cases.{if_equal}
use Rattle.policy.specs.declared.BudgetParameters.{BudgetParameters}
use Rattle.policy.specs.declared.SchedulingPolicy.{SchedulingPolicy}
use Rattle.policy.specs.declared.SchedulingClass.{SchedulingClass}
use Rattle.policy.specs.declared.SchedulingClass.TheVariants as class
use Rattle.budget.specs.declared.BudgetRuntime.{BudgetRuntime}
use Rattle.algorithms.specs.declared.PolicyRuntime.{PolicyRuntime}
use Rattle.algorithms.specs.declared.RuntimeKey.{RuntimeKey}
use Rattle.policy_words.specs.PolicyWords.{word, policy_tag, fifo_priority, epoch_from, policy_from, runtime_from}
use Rattle.policy.specs.declared.ThreadPriority.{ThreadPriority}
use Rattle.policy.specs.declared.ThreadWeight.{ThreadWeight}

-- Budget, period and burst.
abbrev pub budget_ns_word : ℕ
budget_ns_word = 0

abbrev pub period_ns_word : ℕ
period_ns_word = 1

abbrev pub burst_ns_word : ℕ
burst_ns_word = 2

unfoldable pub budget_of : List ℕ → BudgetParameters
budget_of w = record {
  budget_ns = word w budget_ns_word;
  period_ns = word w period_ns_word;
  burst_ns =
      word w burst_ns_word;
}

-- The epoch's two words, what remains, what remains of the burst; and whether there is a runtime at all.
abbrev pub epoch_tag : ℕ
epoch_tag = 0

abbrev pub epoch_word : ℕ
epoch_word = 1

abbrev pub time_left : ℕ
time_left = 2

abbrev pub burst_left : ℕ
burst_left = 3

abbrev pub runtime_there : ℕ
runtime_there = 4

unfoldable pub budget_runtime_of : List ℕ → BudgetRuntime
budget_runtime_of w =
    record {
      epoch = epoch_from (word w epoch_tag) (word w epoch_word);
      remaining_ns = word w time_left;
      burst_remaining_ns = word w burst_left;
    }

-- A budget's runtime, or none.
unfoldable pub runtime_option_of : List ℕ → Option BudgetRuntime
runtime_option_of w = if_equal (word w runtime_there) 0 None (Some (budget_runtime_of w))

-- A policy's tag and its priority.
abbrev pub policy_of : List ℕ → SchedulingPolicy
policy_of w = policy_from (word w policy_tag) (word w fifo_priority)

-- A policy's runtime by itself: the words that stand at 11 to 15 of a row.
abbrev pub policy_runtime_of : List ℕ → PolicyRuntime
policy_runtime_of w = runtime_from (word w 0) (word w 1) (word w 2) (word w 3) (word w 4)

-- The pass by its halves, and the turn.
unfoldable pub runtime_key_of : List ℕ → RuntimeKey
runtime_key_of w = record { pass = record { high = word w 0; low = word w 1 }; turn = word w 2 }

-- 0 none, else the priority.
unfoldable pub priority_option_of : List ℕ → Option ThreadPriority
priority_option_of w = if_equal (word w 0) 0 None (Some (record { 0 = word w 1 % 256 }))

abbrev pub class_number : SchedulingClass → ℕ
class_number class.RealTime = 0
class_number class.Fair = 1
class_number class.Budget = 2
class_number class.Idle = 3

-- 0 where there is none.
abbrev pub weight_number : Option ThreadWeight → ℕ
weight_number (Some w) = w.0
weight_number None = 0

-- `ThreadPriority::HIGHEST`, `NORMAL` and `LOWEST`, `ThreadWeight::DEFAULT` and `MAX`,
-- `BudgetParameters::MAX_PERIOD_NS`.
abbrev pub constants : List ℕ
constants = 0 ∷ 128 ∷ 255 ∷ 16 ∷ 1024 ∷ 1000000000 ∷ []
