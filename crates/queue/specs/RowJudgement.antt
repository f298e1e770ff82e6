-- The judgement of a record by the tags of its row, and that it is the judgement of the record.
use Rattle.std.specs.Prelude.{ℕ, ◌+◌, ◌<◌, ◌≤◌, ◌%◌, ◌≡◌, Bool, List, eqb, Option, Some, None}
use Rattle.std.proofs.Common.{arith, sym, ◌∙◌, eq-eqb, ne_eqb, eqb-true}
use Rattle.std.proofs.Math.Path.{refl}
use Rattle.std.proofs.Math.Bool.{true, false}
use Rattle.refusal.specs.Cases.{choose, given, if_equal}
use Rattle.policy.specs.declared.BudgetParameters.{BudgetParameters}
use Rattle.policy.specs.declared.SchedulingParameters.{SchedulingParameters}
use Rattle.policy.specs.declared.SchedulingPolicy.{SchedulingPolicy}
use Rattle.policy.specs.declared.SchedulingPolicy.TheVariants as policy
use Rattle.policy.specs.declared.SchedulingRole.TheVariants as role
use Rattle.policy.specs.PolicyCases.{on_policy, on_role, on_budget}
use Rattle.policy.specs.Budget.{sound_budget}
use Rattle.budget.specs.declared.BudgetRuntime.{BudgetRuntime}
use Rattle.algorithms.specs.declared.FairRuntime.{FairRuntime}
use Rattle.algorithms.specs.declared.PolicyRuntime.TheVariants as runtime
use Rattle.algorithms.specs.Runtime.{runtime_kind, policy_kind, same_kind, on_runtime}
use Rattle.thread.specs.declared.QueueMembership.{QueueMembership}
use Rattle.thread.specs.Judgement.{has_budget, is_bad_budget, is_bad_record}
use Rattle.thread.specs.Filing.{budget_available_of, role_index, index_for, budget_exhausted, budget_ready, fair_index}
use Rattle.codec.specs.Codec.{word, policy_from, role_from, budget_from, epoch_from, runtime_from, membership_from}
use Rattle.codec.specs.Codec.{parameters_of, runtime_of, queue_links_of, decoded, membership_tag, membership_first}
use Rattle.codec.specs.Codec.{membership_second, cpu_word}
use Rattle.queue.specs.Plan.{filed_of}
use Rattle.policy_words.specs.PolicyWords.{policy_tag, fifo_priority, role_tag, budget_tag, budget_word, budget_period}
use Rattle.policy_words.specs.PolicyWords.{budget_burst, runtime_tag, runtime_first, runtime_second, runtime_third}
use Rattle.policy_words.specs.PolicyWords.{runtime_fourth}

-- FIFO, Fair, Budget and Idle as 0 to 3: `policy_kind` and `runtime_kind` by the tag.
unfoldable pub kind_from : ℕ → ℕ
kind_from tag = if_equal tag 0 0 (if_equal tag 1 1 (if_equal tag 2 2 3))

-- `role_index` by the tag.
unfoldable pub role_number : ℕ → ℕ
role_number tag = if_equal tag 0 0 (if_equal tag 1 1 2)

-- A budget's parameters and its runtime, by their words.
abbrev pub budget_parameters : List ℕ → BudgetParameters
budget_parameters w =
    record { budget_ns = word w budget_word; period_ns = word w budget_period; burst_ns = word w budget_burst }

abbrev pub budget_runtime : List ℕ → BudgetRuntime
budget_runtime w = record {
  epoch = epoch_from (word w runtime_first) (word w runtime_second);
  remaining_ns = word w runtime_third;
  burst_remaining_ns = word w runtime_fourth;
}

-- `is_bad_record` by the tags.
unfoldable pub bad_row : List ℕ → Bool
bad_row w =
    given (kind_from (word w policy_tag))
    (λ p. given (kind_from (word w runtime_tag))
    (λ r. if_equal r p
    (if_equal p 2
    (if_equal (word w budget_tag) 0 true (choose (sound_budget (budget_parameters w)) false true))
    (if_equal (word w budget_tag) 0 false true))
    true))

-- `budget_available_of` by the tag.
unfoldable pub time_left : List ℕ → Bool
time_left w = given (kind_from (word w runtime_tag))
    (λ r. if_equal r 2 (if_equal (word w runtime_third) 0 false true) false)

-- `index_for` by the tags.
unfoldable pub index_row : List ℕ → Option ℕ
index_row w =
    given (role_number (word w role_tag))
    (λ role. given (kind_from (word w policy_tag))
    (λ p. if_equal p 0 (Some role)
    (if_equal p 1 (Some (fair_index + role))
    (if_equal p 2
    (choose (budget_available_of (decoded w).runtime) (Some (budget_ready + role))
    (Some (budget_exhausted + role)))
    None))))

policy_kind_lem : (tag priority : ℕ) → policy_kind (policy_from tag priority) ≡ kind_from tag
unfolding policy_from kind_from if_equal choose
policy_kind_lem tag priority = go (eqb tag 0) (eqb tag 1) (eqb tag 2)
  where
    go : (a b c : Bool) → policy_kind
        (choose a (policy.Fifo (record { 0 = priority % 256 }))
        (choose b policy.Fair (choose c policy.Budget policy.Idle))) ≡ choose a 0 (choose b 1 (choose c 2 3))
    go true b c = refl
    go false true c = refl
    go false false true = refl
    go false false false = refl

module _ (tag first second third fourth : ℕ) where
  abbrev fair : FairRuntime
  fair = record { pass = record { high = first; low = second }; remaining_ns = third }

  abbrev budgeted : BudgetRuntime
  budgeted = record { epoch = epoch_from first second; remaining_ns = third; burst_remaining_ns = fourth }

  runtime_kind_lem : runtime_kind (runtime_from tag first second third fourth) ≡ kind_from tag
  unfolding runtime_from kind_from if_equal choose given
  runtime_kind_lem = go (eqb tag 0) (eqb tag 1) (eqb tag 2)
    where
      go : (a b c : Bool) → runtime_kind
          (choose a runtime.Fifo (choose b (runtime.Fair fair) (choose c (runtime.Budget budgeted) runtime.Idle)))
          ≡ choose a 0 (choose b 1 (choose c 2 3))
      go true b c = refl
      go false true c = refl
      go false false true = refl
      go false false false = refl

  available : budget_available_of (runtime_from tag first second third fourth)
      ≡ if_equal (kind_from tag) 2 (if_equal third 0 false true) false
  unfolding budget_available_of on_runtime runtime_from kind_from if_equal choose given
  available = go (eqb tag 0) (eqb tag 1) (eqb tag 2)
    where
      go : (a b c : Bool)
          → on_runtime (choose a runtime.Fifo
          (choose b (runtime.Fair fair) (choose c (runtime.Budget budgeted) runtime.Idle))) false (λ f. false)
          (λ b. choose (eqb b.remaining_ns 0) false true) false
          ≡ choose (eqb (choose a 0 (choose b 1 (choose c 2 3))) 2) (choose (eqb third 0) false true) false
      go true b c = refl
      go false true c = refl
      go false false true = refl
      go false false false = refl

role_number_lem : (tag : ℕ) → role_index (role_from tag) ≡ role_number tag
unfolding role_index on_role role_from role_number if_equal choose
role_number_lem tag = go (eqb tag 0) (eqb tag 1)
  where
    go : (a b : Bool) → ◌≡◌ {A = ℕ} (on_role (choose a role.Ordinary (choose b role.Priority role.Protected)) 0 1 2)
        (choose a 0 (choose b 1 2))
    go true b = refl
    go false true = refl
    go false false = refl

module _ (tag ns period burst : ℕ) where
  budget_there : has_budget (budget_from tag ns period burst) ≡ if_equal tag 0 false true
  unfolding has_budget on_budget budget_from if_equal choose
  budget_there = go (eqb tag 0)
    where
      go : (a : Bool) → on_budget (choose a None
          (Some (record { budget_ns = ns; period_ns = period; burst_ns = burst }))) false (λ q. true)
          ≡ choose a false true
      go true = refl
      go false = refl

  budget_bad : is_bad_budget (budget_from tag ns period burst)
      ≡ if_equal tag 0 true (choose (sound_budget (record { budget_ns = ns; period_ns = period; burst_ns = burst }))
      false true)
  unfolding is_bad_budget on_budget budget_from if_equal choose
  budget_bad = go (eqb tag 0)
    where
      go : (a : Bool)
          → on_budget (choose a None
          (Some (record { budget_ns = ns; period_ns = period; burst_ns = burst }))) true
          (λ q. choose (sound_budget q) false true)
          ≡ choose a true (choose (sound_budget (record { budget_ns = ns; period_ns = period; burst_ns = burst }))
          false true)
      go true = refl
      go false = refl

by_kind : (p : SchedulingPolicy) (same here bad : Bool)
    → choose same (on_policy p (λ priority. here) here bad here) true
    ≡ choose same (choose (eqb (policy_kind p) 2) bad here) true
unfolding on_policy choose
by_kind (policy.Fifo x) same here bad = refl
by_kind policy.Fair same here bad = refl
by_kind policy.Budget same here bad = refl
by_kind policy.Idle same here bad = refl

index_by_kind : (p : SchedulingPolicy) (a b c d : Option ℕ)
    → on_policy p (λ priority. a) b c d
    ≡ choose (eqb (policy_kind p) 0) a (choose (eqb (policy_kind p) 1) b (choose (eqb (policy_kind p) 2) c d))
unfolding on_policy choose
index_by_kind (policy.Fifo x) a b c d = refl
index_by_kind policy.Fair a b c d = refl
index_by_kind policy.Budget a b c d = refl
index_by_kind policy.Idle a b c d = refl

module _ (w : List ℕ) where
  bad_row_lem : is_bad_record (decoded w) ≡ bad_row w
  unfolding is_bad_record same_kind decoded parameters_of runtime_of bad_row given if_equal
  bad_row_lem =
      by_kind (policy_from (word w policy_tag) (word w fifo_priority))
      (eqb (runtime_kind (runtime_from (word w runtime_tag) (word w runtime_first) (word w runtime_second)
      (word w runtime_third) (word w runtime_fourth)))
      (policy_kind (policy_from (word w policy_tag) (word w fifo_priority))))
      (has_budget (budget_from (word w budget_tag) (word w budget_word) (word w budget_period) (word w budget_burst)))
      (is_bad_budget (budget_from (word w budget_tag) (word w budget_word) (word w budget_period)
      (word w budget_burst)))
      ∙ rw (
        policy_kind_lem (word w policy_tag) (word w fifo_priority),
        runtime_kind_lem (word w runtime_tag) (word w runtime_first) (word w runtime_second) (word w runtime_third)
            (word w runtime_fourth),
        budget_there (word w budget_tag) (word w budget_word) (word w budget_period) (word w budget_burst),
        budget_bad (word w budget_tag) (word w budget_word) (word w budget_period) (word w budget_burst),
      )

  time_left_lem : budget_available_of (decoded w).runtime ≡ time_left w
  unfolding decoded runtime_of time_left given
  time_left_lem =
      available (word w runtime_tag) (word w runtime_first) (word w runtime_second) (word w runtime_third)
      (word w runtime_fourth)

  index_row_lem : index_for (decoded w).parameters (decoded w).runtime ≡ index_row w
  unfolding index_for decoded parameters_of index_row given if_equal
  index_row_lem =
      index_by_kind (policy_from (word w policy_tag) (word w fifo_priority))
      (Some (role_index (role_from (word w role_tag))))
      (Some (fair_index + role_index (role_from (word w role_tag))))
      (choose (budget_available_of (runtime_of w))
      (Some (budget_ready + role_index (role_from (word w role_tag))))
      (Some (budget_exhausted + role_index (role_from (word w role_tag))))) None
      ∙ rw (policy_kind_lem (word w policy_tag) (word w fifo_priority), role_number_lem (word w role_tag))

  pub judged_by_tags : {r : Bool} → r ≡ bad_row w → r ≡ is_bad_record (decoded w)
  judged_by_tags e = e ∙ sym bad_row_lem

  pub available_by_tags : {r : Bool} → r ≡ time_left w → r ≡ budget_available_of (decoded w).runtime
  available_by_tags e = e ∙ sym time_left_lem

  pub filed_by_tags : {r : Option ℕ} → r ≡ index_row w → r ≡ index_for (decoded w).parameters (decoded w).runtime
  filed_by_tags e = e ∙ sym index_row_lem

  pub filed_read : (k : ℕ) {p : SchedulingParameters} {m : QueueMembership} {n : ℕ}
      → p ≡ parameters_of w → m ≡ membership_from (word w membership_tag) (word w membership_first)
      (word w membership_second) → n ≡ word w cpu_word % 256
      → record { policy = p.policy; membership = m; cpu = record { 0 = n }; index = k } ≡ filed_of (decoded w) k
  unfolding decoded queue_links_of
  filed_read k e₁ e₂ e₃ = rw (e₁, e₂, e₃)

-- Only the tag 2 is a budget's.
pub kind_of_two : (tag : ℕ) → kind_from tag ≡ 2 → tag ≡ 2
unfolding kind_from if_equal choose
kind_of_two tag = go (eqb tag 0) (eqb tag 1) (eqb tag 2) refl
  where
    go : (a b c : Bool) → eqb tag 2 ≡ c → ◌≡◌ {A = ℕ} (choose a 0 (choose b 1 (choose c 2 3))) 2 → tag ≡ 2
    go true b c m e = absurd (omega arith)
    go false true c m e = absurd (omega arith)
    go false false true m e = eqb-true tag 2 m
    go false false false m e = absurd (omega arith)

-- What stands in a row whose tags say so.
module _ (w : List ℕ) where
  pub budget_runs : word w runtime_tag ≡ 2 → (decoded w).runtime ≡ runtime.Budget (budget_runtime w)
  unfolding decoded runtime_of runtime_from if_equal choose given
  budget_runs m = rw m

  pub without_budget : word w budget_tag ≡ 0 → (decoded w).parameters.budget ≡ None
  unfolding decoded parameters_of budget_from if_equal choose
  without_budget n = rw (eq-eqb (word w budget_tag) 0 n)

  pub with_budget : (word w budget_tag ≡ 0 → ⊥) → (decoded w).parameters.budget ≡ Some (budget_parameters w)
  unfolding decoded parameters_of budget_from if_equal choose
  with_budget n = rw (ne_eqb (word w budget_tag) 0 n)

-- The numbers of the twelve trees are words.
pub role_fits : (base : ℕ) {n : ℕ} (tag : ℕ) → n ≡ role_number tag → base ≤ budget_exhausted
    → base + n < 18446744073709551616
unfolding role_number if_equal choose
role_fits base {n} tag e h = go (eqb tag 0) (eqb tag 1) e
  where
    go : (a b : Bool) → n ≡ choose a 0 (choose b 1 2) → base + n < 18446744073709551616
    go true b e = omega arith
    go false true e = omega arith
    go false false e = omega arith

pub ruleset by_tags = (judged_by_tags, available_by_tags, filed_by_tags)
