-- Laws of the words: those that are stored for each variant stand for it, and the parts that they stand for make the
-- whole.
use Rattle.std.specs.Prelude.{ℕ, ◌%◌, ◌≡◌, List, [], ◌∷◌, Option, Some, None}
use Rattle.std.proofs.Math.Path.{sym}
use Rattle.refusal.specs.Cases.{choose, given, if_equal}
use Rattle.policy.specs.declared.ThreadPriority.{ThreadPriority}
use Rattle.policy.specs.declared.SchedulingPolicy.{SchedulingPolicy}
use Rattle.policy.specs.declared.SchedulingPolicy.TheVariants as policy
use Rattle.policy.specs.declared.SchedulingRole.{SchedulingRole}
use Rattle.policy.specs.declared.SchedulingRole.TheVariants as role
use Rattle.policy.specs.declared.FairBackend.{FairBackend}
use Rattle.policy.specs.declared.FairBackend.TheVariants as backend
use Rattle.policy.specs.declared.BudgetParameters.{BudgetParameters}
use Rattle.budget.specs.declared.BudgetRuntime.{BudgetRuntime}
use Rattle.algorithms.specs.declared.FairRuntime.{FairRuntime}
use Rattle.algorithms.specs.declared.PolicyRuntime.{PolicyRuntime}
use Rattle.algorithms.specs.declared.PolicyRuntime.TheVariants as runtime
use Rattle.policy.specs.declared.SchedulingParameters.{SchedulingParameters}
use Rattle.policy_words.specs.PolicyWords.{word, policy_tag, fifo_priority, band_word, role_tag, weight_word}
use Rattle.policy_words.specs.PolicyWords.{quantum_word, backend_tag}
use Rattle.policy_words.specs.PolicyWords.{budget_tag, budget_word, budget_period, budget_burst}
use Rattle.policy_words.specs.PolicyWords.{policy_from, role_from, backend_from, budget_from, epoch_from, runtime_from}
use Rattle.policy_words.specs.PolicyWords.{deadline_of, parameters_of}

module _ {p : SchedulingPolicy} where
  pub fifo_words : {x : ThreadPriority} (n : ℕ) → n % 256 ≡ x.0 → p ≡ policy.Fifo x → policy_from 0 n ≡ p
  unfolding policy_from if_equal choose
  fifo_words n e h = rw (h, e)

  pub fair_words : p ≡ policy.Fair → policy_from 1 0 ≡ p
  unfolding policy_from if_equal choose
  fair_words h = sym h

  pub budget_words_lem : p ≡ policy.Budget → policy_from 2 0 ≡ p
  unfolding policy_from if_equal choose
  budget_words_lem h = sym h

  pub idle_words : p ≡ policy.Idle → policy_from 3 0 ≡ p
  unfolding policy_from if_equal choose
  idle_words h = sym h

module _ {x : SchedulingRole} where
  pub ordinary_word : x ≡ role.Ordinary → role_from 0 ≡ x
  unfolding role_from if_equal choose
  ordinary_word h = sym h

  pub priority_word : x ≡ role.Priority → role_from 1 ≡ x
  unfolding role_from if_equal choose
  priority_word h = sym h

  pub protected_word : x ≡ role.Protected → role_from 2 ≡ x
  unfolding role_from if_equal choose
  protected_word h = sym h

module _ {x : FairBackend} where
  pub stride_word : x ≡ backend.Stride → backend_from 0 ≡ x
  unfolding backend_from if_equal choose
  stride_word h = sym h

  pub round_robin_word : x ≡ backend.RoundRobin → backend_from 1 ≡ x
  unfolding backend_from if_equal choose
  round_robin_word h = sym h

module _ {x : Option BudgetParameters} where
  pub no_budget_words : x ≡ None → budget_from 0 0 0 0 ≡ x
  unfolding budget_from if_equal choose
  no_budget_words h = sym h

  pub some_budget_words : {b : BudgetParameters} → x ≡ Some b
      → budget_from 1 b.budget_ns b.period_ns b.burst_ns ≡ x
  unfolding budget_from if_equal choose
  some_budget_words h = sym h

module _ {x : Option ℕ} where
  pub no_epoch_words : x ≡ None → epoch_from 0 0 ≡ x
  unfolding epoch_from if_equal choose
  no_epoch_words h = sym h

  pub some_epoch_words : {n : ℕ} → x ≡ Some n → epoch_from 1 n ≡ x
  unfolding epoch_from if_equal choose
  some_epoch_words h = sym h

module _ {x : PolicyRuntime} where
  pub runs_fifo_words : x ≡ runtime.Fifo → runtime_from 0 0 0 0 0 ≡ x
  unfolding runtime_from if_equal choose
  runs_fifo_words h = sym h

  pub runs_fair_words : {f : FairRuntime} → x ≡ runtime.Fair f
      → runtime_from 1 f.pass.high f.pass.low f.remaining_ns 0 ≡ x
  unfolding runtime_from if_equal choose
  runs_fair_words h = sym h

  pub runs_budget_words : {b : BudgetRuntime} (tag n : ℕ) → epoch_from tag n ≡ b.epoch → x ≡ runtime.Budget b
      → runtime_from 2 tag n b.remaining_ns b.burst_remaining_ns ≡ x
  unfolding runtime_from given if_equal choose
  runs_budget_words tag n e h = rw (h, e)

  pub runs_idle_words : x ≡ runtime.Idle → runtime_from 3 0 0 0 0 ≡ x
  unfolding runtime_from if_equal choose
  runs_idle_words h = sym h

module _ {d : Option ℕ} where
  pub no_deadline_words : d ≡ None → deadline_of (0 ∷ 0 ∷ []) ≡ d
  unfolding deadline_of if_equal choose
  no_deadline_words h = sym h

  pub deadline_words : {n : ℕ} → d ≡ Some n → deadline_of (1 ∷ n ∷ []) ≡ d
  unfolding deadline_of if_equal choose
  deadline_words h = sym h

pub parameters_words : (p : SchedulingParameters) (a b : List ℕ) (band role weight backend : ℕ)
    → policy_from (word a 0) (word a 1) ≡ p.policy
    → band % 256 ≡ p.band.0
    → role_from role ≡ p.role
    → weight % 65536 ≡ p.weight.0
    → backend_from backend ≡ p.fair_backend
    → budget_from (word b 0) (word b 1) (word b 2) (word b 3) ≡ p.budget
    → parameters_of (word a 0 ∷ word a 1 ∷ band ∷ role ∷ weight ∷ p.quantum_ns ∷ backend ∷ word b 0 ∷ word b 1
    ∷ word b 2 ∷ word b 3 ∷ []) ≡ p
unfolding parameters_of
parameters_words p a b band role weight backend e₁ e₂ e₃ e₄ e₅ e₆ = rw (e₁, e₂, e₃, e₄, e₅, e₆)

-- The parts that the words stand for make the whole.
pub parameters_read : (w : List ℕ) {policy : SchedulingPolicy} {band weight : ℕ} {role : SchedulingRole}
    {backend : FairBackend} {budget : Option BudgetParameters}
    → policy ≡ policy_from (word w policy_tag) (word w fifo_priority) → band ≡ word w band_word % 256
    → role ≡ role_from (word w role_tag) → weight ≡ word w weight_word % 65536
    → backend ≡ backend_from (word w backend_tag)
    → budget ≡ budget_from (word w budget_tag) (word w budget_word) (word w budget_period) (word w budget_burst)
    → record {
      policy = policy;
      band = record { 0 = band };
      role = role;
      weight = record { 0 = weight };
      quantum_ns = word w quantum_word;
      fair_backend = backend;
      budget = budget;
    }
    ≡ parameters_of w
unfolding parameters_of
parameters_read w e₁ e₂ e₃ e₄ e₅ e₆ = rw (e₁, e₂, e₃, e₄, e₅, e₆)

pub ruleset parts = (
  fifo_words,
  fair_words,
  budget_words_lem,
  idle_words,
  ordinary_word,
  priority_word,
  protected_word,
  stride_word,
  round_robin_word,
  no_budget_words,
  some_budget_words,
  no_epoch_words,
  some_epoch_words,
  runs_fifo_words,
  runs_fair_words,
  runs_budget_words,
  runs_idle_words,
  no_deadline_words,
  deadline_words,
  parameters_words,
)
