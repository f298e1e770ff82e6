-- Weights, and what the constructors of `SchedulingParameters` make. After task/policy.rs.
use Rattle.std.specs.Prelude.{ℕ, Option, Some, None}
use Rattle.refusal.specs.Cases.{if_less, if_equal}
use Rattle.policy.specs.Budget.{max_period}
use Rattle.policy.specs.declared.ThreadPriority.{ThreadPriority}
use Rattle.policy.specs.declared.SchedulingClass.{SchedulingClass}
use Rattle.policy.specs.declared.SchedulingClass.TheVariants as class
use Rattle.policy.specs.declared.SchedulingPolicy.{SchedulingPolicy}
use Rattle.policy.specs.declared.SchedulingPolicy.TheVariants as policy
use Rattle.policy.specs.declared.SchedulingRole.{SchedulingRole}
use Rattle.policy.specs.declared.SchedulingRole.TheVariants as role
use Rattle.policy.specs.declared.FairBackend.{FairBackend}
use Rattle.policy.specs.declared.FairBackend.TheVariants as backend
use Rattle.policy.specs.declared.ThreadWeight.{ThreadWeight}
use Rattle.policy.specs.declared.BudgetParameters.{BudgetParameters}
use Rattle.policy.specs.declared.SchedulingParameters.{SchedulingParameters}

abbrev pub class_of : SchedulingPolicy → SchedulingClass
class_of (policy.Fifo p) = class.RealTime
class_of policy.Fair = class.Fair
class_of policy.Budget = class.Budget
class_of policy.Idle = class.Idle

abbrev pub priority_of : SchedulingPolicy → Option ThreadPriority
priority_of (policy.Fifo p) = Some p
priority_of policy.Fair = None
priority_of policy.Budget = None
priority_of policy.Idle = None

-- A weight is 1 to 1,024 (`ThreadWeight::MAX`).
unfoldable pub new_weight : ℕ → Option ThreadWeight
new_weight n = if_equal n 0 None (if_less 1024 n None (Some (record { 0 = n })))

-- `ThreadWeight::DEFAULT`.
abbrev pub default_weight : ThreadWeight
default_weight = record { 0 = 16 }

-- Fair parameters, or none where the quantum is 0 or above 1,000,000,000.
unfoldable pub new_fair : ThreadWeight → ℕ → ThreadPriority → SchedulingRole → FairBackend → Option SchedulingParameters
new_fair w quantum b r f =
    if_equal quantum 0 None
    (if_less max_period quantum None
    (Some (record {
      policy = policy.Fair;
      band = b;
      role = r;
      weight = w;
      quantum_ns = quantum;
      fair_backend = f;
      budget = None;
    })))

abbrev pub of_budget : BudgetParameters → ThreadPriority → SchedulingRole → SchedulingParameters
of_budget p b r =
    record {
      policy = policy.Budget;
      band = b;
      role = r;
      weight = default_weight;
      quantum_ns = 0;
      fair_backend = backend.Stride;
      budget = Some p;
    }

abbrev pub of_fifo : ThreadPriority → ThreadPriority → SchedulingRole → SchedulingParameters
of_fifo p b r =
    record {
      policy = policy.Fifo p;
      band = b;
      role = r;
      weight = default_weight;
      quantum_ns = 0;
      fair_backend = backend.Stride;
      budget = None;
    }

-- The lowest priority, 255, as its band.
abbrev pub of_idle : SchedulingParameters
of_idle =
    record {
      policy = policy.Idle;
      band = record { 0 = 255 };
      role = role.Ordinary;
      weight = default_weight;
      quantum_ns = 0;
      fair_backend = backend.Stride;
      budget = None;
    }
