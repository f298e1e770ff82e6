-- The laws by which the entries meet their contracts: an answer's value was stored, or its refusal's number is told.
use Rattle.std.specs.Prelude.{ℕ, ◌%◌, ◌≡◌, List, [], ◌∷◌, Option, Some, None, Result, Ok, Err}
use Rattle.std.proofs.Math.Path.{refl, sym}
use Rattle.std.proofs.Common.{◌∙◌, ap, ap₂}
use Rattle.refusal.specs.declared.Refusal.{Refusal}
use Rattle.refusal.specs.Answer.{Answer, number_of, by_number}
use Rattle.refusal.specs.Cases.{choose, if_equal}
use Rattle.policy.specs.declared.BudgetParameters.{BudgetParameters}
use Rattle.policy.specs.declared.SchedulingParameters.{SchedulingParameters}
use Rattle.policy.specs.declared.SchedulingPolicy.{SchedulingPolicy}
use Rattle.policy.specs.declared.SchedulingRole.{SchedulingRole}
use Rattle.policy.specs.declared.SchedulingClass.{SchedulingClass}
use Rattle.policy.specs.declared.FairBackend.{FairBackend}
use Rattle.policy.specs.declared.ThreadPriority.{ThreadPriority}
use Rattle.policy.specs.declared.ThreadWeight.{ThreadWeight}
use Rattle.policy.specs.Parameters.{new_weight, class_of, priority_of}
use Rattle.algorithms.specs.declared.RuntimeKey.{RuntimeKey}
use Rattle.budget.specs.declared.BudgetRuntime.{BudgetRuntime}
use Rattle.algorithms.specs.declared.PolicyRuntime.{PolicyRuntime}
use Rattle.policy_words.specs.PolicyWords.{word, epoch_from, policy_from, role_from, backend_from, budget_from}
use Rattle.policy_words.specs.PolicyWords.{parameters_of}
use Rattle.record_entries.specs.RecordWords.{budget_of, budget_runtime_of, runtime_option_of, runtime_key_of}
use Rattle.record_entries.specs.RecordWords.{priority_option_of, class_number, weight_number}
use Rattle.record_entries.specs.Entries.{Told, told, told_of, parameters_told}

module _ (before : BudgetParameters) {x : Result BudgetParameters Refusal} {z : Answer BudgetParameters} where
  pub budget_made_lem : {b : BudgetParameters} (ns period burst : ℕ) → by_number x ≡ z → x ≡ Ok b
      → ns ≡ b.budget_ns → period ≡ b.period_ns → burst ≡ b.burst_ns
      → told 0 (budget_of (ns ∷ period ∷ burst ∷ [])) ≡ told_of before z
  unfolding told_of budget_of
  budget_made_lem ns period burst h e e₁ e₂ e₃ = rw (sym h, e, e₁, e₂, e₃) refl

  pub budget_not_made : {r : Refusal} (n : ℕ) → by_number x ≡ z → x ≡ Err r → n ≡ number_of r
      → told n before ≡ told_of before z
  unfolding told_of
  budget_not_made n h e f = rw (sym h, e, f) refl

module _ {p : Option ThreadPriority} where
  pub priority_words : {x : ThreadPriority} (n : ℕ) {m : ℕ} → p ≡ Some x → m ≡ x.0 → n % 256 ≡ m
      → priority_option_of (1 ∷ n ∷ []) ≡ p
  unfolding priority_option_of if_equal choose
  priority_words n h e f = rw (h, f, e) refl

  pub no_priority_words : p ≡ None → priority_option_of (0 ∷ 0 ∷ []) ≡ p
  unfolding priority_option_of if_equal choose
  no_priority_words h = sym h

pub policy_told : (tag priority : ℕ) (q : SchedulingPolicy) (k : SchedulingClass) {n : ℕ} {o a : Option ThreadPriority}
    → q ≡ policy_from tag priority → o ≡ priority_of q → a ≡ o → k ≡ class_of q → n ≡ class_number k
    → told n a ≡ told (class_number (class_of (policy_from tag priority))) (priority_of (policy_from tag priority))
policy_told tag priority q k e₁ e₃ e₄ e₅ e₆ = rw (sym e₁, e₄, e₃, e₆, e₅) refl

module _ {x : Option ThreadWeight} (n : ℕ) {r : ℕ} where
  pub weight_made : {w : ThreadWeight} → x ≡ new_weight n → x ≡ Some w → r ≡ w.0
      → r ≡ weight_number (new_weight n)
  weight_made e m h = rw (sym e, m) h

  pub no_weight : x ≡ new_weight n → x ≡ None → r ≡ 0 → r ≡ weight_number (new_weight n)
  no_weight e m h = rw (sym e, m) h

module _ (before : SchedulingParameters) {x : Option SchedulingParameters} where
  pub parameters_made : {q after : SchedulingParameters} → x ≡ Some q → after ≡ q
      → told 1 after ≡ parameters_told before x
  unfolding parameters_told
  parameters_made e h = rw (e, h) refl

  pub no_parameters : x ≡ None → told 0 before ≡ parameters_told before x
  unfolding parameters_told
  no_parameters e = rw e refl

-- The readers give the parts, and each part's words stand for it.
pub readers_words : (p : SchedulingParameters) (a b : List ℕ) (band role weight quantum backend : ℕ)
    {q : SchedulingPolicy} {x : ThreadPriority} {r : SchedulingRole} {w : ThreadWeight} {f : FairBackend}
    {o : Option BudgetParameters}
    → policy_from (word a 0) (word a 1) ≡ q → q ≡ p.policy
    → band % 256 ≡ x.0 → x ≡ p.band
    → role_from role ≡ r → r ≡ p.role
    → weight % 65536 ≡ w.0 → w ≡ p.weight
    → quantum ≡ p.quantum_ns
    → backend_from backend ≡ f → f ≡ p.fair_backend
    → budget_from (word b 0) (word b 1) (word b 2) (word b 3) ≡ o → o ≡ p.budget
    → parameters_of (word a 0 ∷ word a 1 ∷ band ∷ role ∷ weight ∷ quantum ∷ backend ∷ word b 0 ∷ word b 1 ∷ word b 2
    ∷ word b 3 ∷ []) ≡ p
unfolding parameters_of
readers_words p a b band role weight quantum backend e₁ f₁ e₂ f₂ e₃ f₃ e₄ f₄ e₅ e₆ f₆ e₇ f₇ =
    rw (e₁, f₁, e₂, f₂, e₃, f₃, e₄, f₄, e₅, e₆, f₆, e₇, f₇)

pub budget_runtime_words : (b : BudgetRuntime) (a : List ℕ) (n m : ℕ) → epoch_from (word a 0) (word a 1) ≡ b.epoch
    → n ≡ b.remaining_ns → m ≡ b.burst_remaining_ns
    → budget_runtime_of (word a 0 ∷ word a 1 ∷ n ∷ m ∷ []) ≡ b
unfolding budget_runtime_of
budget_runtime_words b a n m e f g = rw (e, f, g)

pub runtime_key_words : (k : RuntimeKey) → runtime_key_of (k.pass.high ∷ k.pass.low ∷ k.turn ∷ []) ≡ k
unfolding runtime_key_of
runtime_key_words k = refl

module _ (before : BudgetRuntime) {x : Result BudgetRuntime Refusal} where
  pub budget_stored_lem : {b after : BudgetRuntime} → x ≡ Ok b → after ≡ b
      → told 0 after ≡ told_of before (by_number x)
  unfolding told_of
  budget_stored_lem e h = rw (e, h) refl

  pub budget_refused : {r : Refusal} (n : ℕ) → x ≡ Err r → n ≡ number_of r
      → told n before ≡ told_of before (by_number x)
  unfolding told_of
  budget_refused n e h = rw (e, h) refl

module _ (before : Option ℕ) {x : Result (Option ℕ) Refusal} where
  pub deadline_stored : {d after : Option ℕ} → x ≡ Ok d → after ≡ d
      → told 0 after ≡ told_of before (by_number x)
  unfolding told_of
  deadline_stored e h = rw (e, h) refl

  pub deadline_refused : {r : Refusal} (n : ℕ) → x ≡ Err r → n ≡ number_of r
      → told n before ≡ told_of before (by_number x)
  unfolding told_of
  deadline_refused n e h = rw (e, h) refl

module _ (before : BudgetRuntime × Option ℕ) {x : Result (BudgetRuntime × Option ℕ) Refusal} where
  pub both_stored : {b after : BudgetRuntime} {d end : Option ℕ} → x ≡ Ok (b, d) → after ≡ b → end ≡ d
      → told 0 (after, end) ≡ told_of before (by_number x)
  unfolding told_of
  both_stored e f g = rw (e, f, g) refl

  pub both_refused : {r : Refusal} (n : ℕ) → x ≡ Err r → n ≡ number_of r
      → told n before ≡ told_of before (by_number x)
  unfolding told_of
  both_refused n e h = rw (e, h) refl

module _ (before : Option BudgetRuntime) {x : Result (Option BudgetRuntime) Refusal} where
  pub changed : {b : BudgetRuntime} (a : List ℕ) → x ≡ Ok (Some b) → budget_runtime_of a ≡ b
      → told 0 (runtime_option_of (word a 0 ∷ word a 1 ∷ word a 2 ∷ word a 3 ∷ 1 ∷ []))
      ≡ told_of before (by_number x)
  unfolding told_of runtime_option_of budget_runtime_of if_equal choose
  changed a e h = rw (e, sym h) refl

  pub other_period : x ≡ (Ok None)
      → told 0 (runtime_option_of (0 ∷ 0 ∷ 0 ∷ 0 ∷ 0 ∷ [])) ≡ told_of before (by_number x)
  unfolding told_of runtime_option_of if_equal choose
  other_period e = rw e refl

  pub not_reconfigured : {r : Refusal} (n : ℕ) → x ≡ Err r → n ≡ number_of r
      → told n before ≡ told_of before (by_number x)
  unfolding told_of
  not_reconfigured n e h = rw (e, h) refl

module _ (before : PolicyRuntime) {x : Result PolicyRuntime Refusal} where
  pub runtime_stored_lem : {a after : PolicyRuntime} → x ≡ Ok a → after ≡ a
      → told 0 after ≡ told_of before (by_number x)
  unfolding told_of
  runtime_stored_lem e h = rw (e, h) refl

  pub runtime_refused : {r : Refusal} (n : ℕ) → x ≡ Err r → n ≡ number_of r
      → told n before ≡ told_of before (by_number x)
  unfolding told_of
  runtime_refused n e h = rw (e, h) refl

module _ (before : PolicyRuntime × Option ℕ) {x : Result (PolicyRuntime × Option ℕ) Refusal} where
  pub due_stored : {a after : PolicyRuntime} {d end : Option ℕ} → x ≡ Ok (a, d) → after ≡ a → end ≡ d
      → told 0 (after, end) ≡ told_of before (by_number x)
  unfolding told_of
  due_stored e f g = rw (e, f, g) refl

  pub due_refused : {r : Refusal} (n : ℕ) → x ≡ Err r → n ≡ number_of r
      → told n before ≡ told_of before (by_number x)
  unfolding told_of
  due_refused n e h = rw (e, h) refl

pub ruleset entries = (
  budget_made_lem,
  budget_not_made,
  priority_words,
  no_priority_words,
  policy_told,
  weight_made,
  no_weight,
  runtime_key_words,
  readers_words,
  parameters_made,
  no_parameters,
  budget_runtime_words,
  budget_stored_lem,
  budget_refused,
  deadline_stored,
  deadline_refused,
  both_stored,
  both_refused,
  changed,
  other_period,
  not_reconfigured,
  runtime_stored_lem,
  runtime_refused,
  due_stored,
  due_refused,
)

-- What f answers on some arguments, it answers on those that they are equal to: on what the words stand for.
pub on_one : {A R : Type 0} (f : A → R) (y : R) (a x : A) → y ≡ f a → a ≡ x → y ≡ f x
on_one f y a x h e = h ∙ ap f e

pub on_two : {A B R : Type 0} (f : A → B → R) (y : R) (a x : A) (b z : B) → y ≡ f a b → a ≡ x → b ≡ z → y ≡ f x z
on_two f y a x b z h e₁ e₂ = h ∙ ap₂ f e₁ e₂

pub on_three : {A B C R : Type 0} (f : A → B → C → R) (y : R) (a u : A) (b v : B) (c w : C) → y ≡ f a b c → a ≡ u
    → b ≡ v → c ≡ w → y ≡ f u v w
on_three f y a u b v c w h e₁ e₂ e₃ = h ∙ (λ i. f (e₁ i) (e₂ i) (e₃ i))

pub on_four : {A B C D R : Type 0} (f : A → B → C → D → R) (y : R) (a u : A) (b v : B) (c w : C) (d x : D)
    → y ≡ f a b c d → a ≡ u → b ≡ v → c ≡ w → d ≡ x → y ≡ f u v w x
on_four f y a u b v c w d x h e₁ e₂ e₃ e₄ = h ∙ (λ i. f (e₁ i) (e₂ i) (e₃ i) (e₄ i))

pub on_five : {A B C D E R : Type 0} (f : A → B → C → D → E → R) (y : R) (a u : A) (b v : B) (c w : C) (d x : D)
    (e z : E)
    → y ≡ f a b c d e → a ≡ u → b ≡ v → c ≡ w → d ≡ x → e ≡ z → y ≡ f u v w x z
on_five f y a u b v c w d x e z h e₁ e₂ e₃ e₄ e₅ = h ∙ (λ i. f (e₁ i) (e₂ i) (e₃ i) (e₄ i) (e₅ i))

-- What an answer leaves, an equal one leaves.
pub told_by : {A : Type 0} {y : Told A} {x z : Answer A} (before : A) → y ≡ told_of before x → x ≡ z
    → y ≡ told_of before z
told_by before h e = h ∙ ap (told_of before) e

pub parameters_by : {y : Told SchedulingParameters} {x z : Option SchedulingParameters} (before : SchedulingParameters)
    → y ≡ parameters_told before x → x ≡ z → y ≡ parameters_told before z
parameters_by before h e = h ∙ ap (parameters_told before) e
