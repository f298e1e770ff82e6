-- Laws for going by a runtime's kind, and by what a `BudgetRuntime` call answered.
use Rattle.std.specs.Prelude.{ℕ, ◌≡◌, eqb, Option}
use Rattle.std.proofs.Common.{sym}
use Rattle.refusal.specs.Answer.{Answer}
use Rattle.policy.specs.declared.SchedulingPolicy.{SchedulingPolicy}
use Rattle.budget.specs.declared.BudgetRuntime.{BudgetRuntime}
use Rattle.algorithms.specs.declared.FairRuntime.{FairRuntime}
use Rattle.algorithms.specs.declared.PolicyRuntime.{PolicyRuntime}
use Rattle.algorithms.specs.declared.PolicyRuntime.TheVariants as runtime
use Rattle.algorithms.specs.Runtime.{on_runtime, runtime_kind, policy_kind, same_kind, of_budget, of_budget_deadline}

module _ {A : Type 0} {y : A} {x : PolicyRuntime} (a : A) (f : FairRuntime → A) (g : BudgetRuntime → A) (d : A) where
  pub runs_fifo : x ≡ runtime.Fifo → y ≡ a → y ≡ on_runtime x a f g d
  unfolding on_runtime
  runs_fifo e h = rw e h

  pub runs_fair : {r : FairRuntime} → x ≡ runtime.Fair r → y ≡ f r → y ≡ on_runtime x a f g d
  unfolding on_runtime
  runs_fair e h = rw e h

  pub runs_budget : {r : BudgetRuntime} → x ≡ runtime.Budget r → y ≡ g r → y ≡ on_runtime x a f g d
  unfolding on_runtime
  runs_budget e h = rw e h

  pub runs_idle : x ≡ runtime.Idle → y ≡ d → y ≡ on_runtime x a f g d
  unfolding on_runtime
  runs_idle e h = rw e h

pub kinds_compared : (x : PolicyRuntime) (p : SchedulingPolicy) {m n : ℕ} → m ≡ runtime_kind x → n ≡ policy_kind p
    → eqb m n ≡ same_kind x p
unfolding same_kind
kinds_compared x p e f = rw (e, f)

pub by_answer : {y : Answer PolicyRuntime} {r x : Answer BudgetRuntime} → r ≡ x → y ≡ of_budget r → y ≡ of_budget x
by_answer e h = rw (sym e) h

pub by_deadline : {y : Answer (PolicyRuntime × Option ℕ)} {r x : Answer (BudgetRuntime × Option ℕ)} → r ≡ x
    → y ≡ of_budget_deadline r → y ≡ of_budget_deadline x
by_deadline e h = rw (sym e) h

pub ruleset runtimes = (runs_fifo, runs_fair, runs_budget, runs_idle, by_answer, by_deadline)
