-- Choosing by a policy, a role, a backend or a budget that may be absent, with the laws by which proofs do.
use Rattle.std.specs.Prelude.{◌≡◌, Option, Some, None}
use Rattle.policy.specs.declared.ThreadPriority.{ThreadPriority}
use Rattle.policy.specs.declared.SchedulingPolicy.{SchedulingPolicy}
use Rattle.policy.specs.declared.SchedulingPolicy.TheVariants as policy
use Rattle.policy.specs.declared.SchedulingRole.{SchedulingRole}
use Rattle.policy.specs.declared.SchedulingRole.TheVariants as role
use Rattle.policy.specs.declared.FairBackend.{FairBackend}
use Rattle.policy.specs.declared.FairBackend.TheVariants as backend
use Rattle.policy.specs.declared.BudgetParameters.{BudgetParameters}

-- FIFO, Fair, Budget, Idle.
unfoldable pub on_policy : {A : Type 0} → SchedulingPolicy → (ThreadPriority → A) → A → A → A → A
on_policy (policy.Fifo p) fifo fair budgeted idle = fifo p
on_policy policy.Fair fifo fair budgeted idle = fair
on_policy policy.Budget fifo fair budgeted idle = budgeted
on_policy policy.Idle fifo fair budgeted idle = idle

-- Ordinary, Priority, Protected.
unfoldable pub on_role : {A : Type 0} → SchedulingRole → A → A → A → A
on_role role.Ordinary ordinary priority protected = ordinary
on_role role.Priority ordinary priority protected = priority
on_role role.Protected ordinary priority protected = protected

-- Stride, round robin.
unfoldable pub on_backend : {A : Type 0} → FairBackend → A → A → A
on_backend backend.Stride stride round_robin = stride
on_backend backend.RoundRobin stride round_robin = round_robin

-- No budget first.
unfoldable pub on_budget : {A : Type 0} → Option BudgetParameters → A → (BudgetParameters → A) → A
on_budget None a f = a
on_budget (Some p) a f = f p

module _ {A : Type 0} {y : A} {x : SchedulingPolicy} (f : ThreadPriority → A) (a b c : A) where
  pub is_fifo_lem : {p : ThreadPriority} → x ≡ policy.Fifo p → y ≡ f p → y ≡ on_policy x f a b c
  unfolding on_policy
  is_fifo_lem e h = rw e h

  pub is_fair : x ≡ policy.Fair → y ≡ a → y ≡ on_policy x f a b c
  unfolding on_policy
  is_fair e h = rw e h

  pub is_budget_lem : x ≡ policy.Budget → y ≡ b → y ≡ on_policy x f a b c
  unfolding on_policy
  is_budget_lem e h = rw e h

  pub is_idle : x ≡ policy.Idle → y ≡ c → y ≡ on_policy x f a b c
  unfolding on_policy
  is_idle e h = rw e h

module _ {A : Type 0} {y : A} {x : SchedulingRole} (a b c : A) where
  pub is_ordinary : x ≡ role.Ordinary → y ≡ a → y ≡ on_role x a b c
  unfolding on_role
  is_ordinary e h = rw e h

  pub is_priority_lem : x ≡ role.Priority → y ≡ b → y ≡ on_role x a b c
  unfolding on_role
  is_priority_lem e h = rw e h

  pub is_protected_lem : x ≡ role.Protected → y ≡ c → y ≡ on_role x a b c
  unfolding on_role
  is_protected_lem e h = rw e h

module _ {A : Type 0} {y : A} {x : FairBackend} (a b : A) where
  pub is_stride : x ≡ backend.Stride → y ≡ a → y ≡ on_backend x a b
  unfolding on_backend
  is_stride e h = rw e h

  pub is_round_robin : x ≡ backend.RoundRobin → y ≡ b → y ≡ on_backend x a b
  unfolding on_backend
  is_round_robin e h = rw e h

module _ {A : Type 0} {y : A} {x : Option BudgetParameters} (a : A) (f : BudgetParameters → A) where
  pub no_budget : x ≡ None → y ≡ a → y ≡ on_budget x a f
  unfolding on_budget
  no_budget e h = rw e h

  pub some_budget : {p : BudgetParameters} → x ≡ Some p → y ≡ f p → y ≡ on_budget x a f
  unfolding on_budget
  some_budget e h = rw e h

pub ruleset policies = (
  is_fifo_lem,
  is_fair,
  is_budget_lem,
  is_idle,
  is_ordinary,
  is_priority_lem,
  is_protected_lem,
  is_stride,
  is_round_robin,
  no_budget,
  some_budget,
)
