-- What a record asks for by the tags of its row, and that this is what the record asks for.
use Rattle.std.specs.Prelude.{ℕ, ◌%◌, ◌≡◌, Bool, List, eqb, Option, Some}
use Rattle.std.proofs.Math.Path.{refl, sym}
use Rattle.std.proofs.Common.{◌∙◌}
use Rattle.std.proofs.Math.Bool.{true, false}
use Rattle.refusal.specs.Cases.{choose, given, if_equal}
use Rattle.policy.specs.declared.FairBackend.TheVariants as backend
use Rattle.policy.specs.declared.SchedulingParameters.{SchedulingParameters}
use Rattle.policy.specs.declared.SchedulingPolicy.TheVariants as policy
use Rattle.policy.specs.declared.SchedulingRole.TheVariants as role
use Rattle.policy.specs.declared.ThreadPriority.{ThreadPriority}
use Rattle.policy.specs.PolicyCases.{on_policy, on_role, on_backend}
use Rattle.budget.specs.declared.BudgetRuntime.{BudgetRuntime}
use Rattle.algorithms.specs.declared.FairRuntime.{FairRuntime}
use Rattle.algorithms.specs.declared.PolicyRuntime.TheVariants as runtime
use Rattle.algorithms.specs.declared.RuntimeKey.{RuntimeKey}
use Rattle.algorithms.specs.declared.Wide.{Wide}
use Rattle.algorithms.specs.Runtime.{on_runtime, candidate_key, zero_pass}
use Rattle.arbitration.specs.declared.Candidate.{Candidate}
use Rattle.arbitration.specs.declared.Demand.{Demand}
use Rattle.arbitration.specs.Window.{is_priority, is_protected}
use Rattle.thread.specs.Filing.{budget_available_of}
use Rattle.codec.specs.Codec.{word, policy_from, role_from, backend_from, epoch_from, runtime_from, parameters_of}
use Rattle.codec.specs.Codec.{runtime_of}
use Rattle.codec.specs.Codec.{decoded, ready_turn_word}
use Rattle.demands.specs.declared.Gathered.{Gathered}
use Rattle.demands.specs.Demands.{candidate_of, demand_of, joined, add_demand, lesser_pass, on_pass, lowest_pass}
use Rattle.demands.specs.Demands.{gathered, no_demand}
use Rattle.policy_words.specs.PolicyWords.{policy_tag, fifo_priority, role_tag, backend_tag, runtime_tag, runtime_first}
use Rattle.policy_words.specs.PolicyWords.{runtime_second, runtime_third, runtime_fourth}

-- The lower of the lowest pass so far and another.
abbrev pub lower_pass : Option Wide → Wide → Option Wide
lower_pass lowest p = on_pass lowest (Some p) (λ old. given (lesser_pass old p) Some)

-- `is_protected` and `is_priority` by the role's tag.
unfoldable pub protected_tag : ℕ → Bool
protected_tag tag = if_equal tag 0 false (if_equal tag 1 false true)

unfoldable pub priority_tag : ℕ → Bool
priority_tag tag = if_equal tag 0 false (if_equal tag 1 true false)

-- `demand_of` by the policy's tag.
unfoldable pub demand_row : List ℕ → Demand
demand_row w =
    if_equal (word w policy_tag) 0
    (record {
      protected = is_protected (role_from (word w role_tag));
      fair = true;
      window_sensitive = is_priority (role_from (word w role_tag));
      eligible_budget = false;
      any_budget = false;
    })
    (if_equal (word w policy_tag) 1
    (record {
      protected = is_protected (role_from (word w role_tag));
      fair = true;
      window_sensitive = true;
      eligible_budget = false;
      any_budget = false;
    })
    (if_equal (word w policy_tag) 2
    (given (budget_available_of (decoded w).runtime)
    (λ available. record {
      protected = choose (is_protected (role_from (word w role_tag))) available false;
      fair = false;
      window_sensitive = is_priority (role_from (word w role_tag));
      eligible_budget = available;
      any_budget = true;
    }))
    no_demand))

-- The pass by the tags of runtime and backend.
unfoldable pub pass_row : List ℕ → Wide
pass_row w =
    if_equal (word w runtime_tag) 0 zero_pass
    (if_equal (word w runtime_tag) 1
    (if_equal (word w backend_tag) 0 (record { high = word w runtime_first; low = word w runtime_second }) zero_pass)
    zero_pass)

-- `lowest_pass` by the policy's tag.
unfoldable pub lowest_row : Option Wide → List ℕ → Option Wide
lowest_row lowest w =
    if_equal (word w policy_tag) 0 lowest
    (if_equal (word w policy_tag) 1
    (given (candidate_of (decoded w)).fair_pass (lower_pass lowest))
    lowest)

protected_tag_lem : (tag : ℕ) → is_protected (role_from tag) ≡ protected_tag tag
unfolding is_protected on_role role_from protected_tag if_equal choose
protected_tag_lem tag = go (eqb tag 0) (eqb tag 1)
  where
    go : (a b : Bool) → on_role (choose a role.Ordinary (choose b role.Priority role.Protected)) false false true
        ≡ choose a false (choose b false true)
    go true b = refl
    go false true = refl
    go false false = refl

priority_tag_lem : (tag : ℕ) → is_priority (role_from tag) ≡ priority_tag tag
unfolding is_priority on_role role_from priority_tag if_equal choose
priority_tag_lem tag = go (eqb tag 0) (eqb tag 1)
  where
    go : (a b : Bool) → on_role (choose a role.Ordinary (choose b role.Priority role.Protected)) false true false
        ≡ choose a false (choose b true false)
    go true b = refl
    go false true = refl
    go false false = refl

policy_tag_lem : {A : Type 0} (tag priority : ℕ) (fifo : ThreadPriority → A) (fair budgeted idle : A)
    → on_policy (policy_from tag priority) fifo fair budgeted idle
    ≡ if_equal tag 0 (fifo (record { 0 = priority % 256 }))
    (if_equal tag 1 fair (if_equal tag 2 budgeted idle))
unfolding on_policy policy_from if_equal choose
policy_tag_lem {A} tag priority fifo fair budgeted idle = go (eqb tag 0) (eqb tag 1) (eqb tag 2)
  where
    go : (a b c : Bool)
        → ◌≡◌ {A = A} (on_policy (choose a (policy.Fifo (record { 0 = priority % 256 }))
        (choose b policy.Fair (choose c policy.Budget policy.Idle))) fifo fair budgeted idle)
        (choose a (fifo (record { 0 = priority % 256 })) (choose b fair (choose c budgeted idle)))
    go true b c = refl
    go false true c = refl
    go false false true = refl
    go false false false = refl

module _ (w : List ℕ) where
  pub demand_by_tags : {r : Demand} → r ≡ demand_row w → r ≡ demand_of (candidate_of (decoded w))
  unfolding demand_of candidate_of demand_row given decoded parameters_of
  demand_by_tags e = e ∙ sym (policy_tag_lem (word w policy_tag) (word w fifo_priority) _ _ _ _)

  pass_row_lem : (candidate_of (decoded w)).fair_pass ≡ pass_row w
  unfolding candidate_of candidate_key given decoded parameters_of runtime_of runtime_from backend_from on_runtime
      on_backend
      pass_row if_equal choose
  pass_row_lem =
      go (eqb (word w runtime_tag) 0) (eqb (word w runtime_tag) 1) (eqb (word w runtime_tag) 2)
      (eqb (word w backend_tag) 0)
    where
      go : (a b c d : Bool)
          → (on_runtime {A = RuntimeKey} (choose a runtime.Fifo
          (choose b (runtime.Fair (record {
            pass = record { high = word w runtime_first; low = word w runtime_second };
            remaining_ns = word w runtime_third;
          }))
          (choose c (runtime.Budget (record {
            epoch = epoch_from (word w runtime_first) (word w runtime_second);
            remaining_ns = word w runtime_third;
            burst_remaining_ns = word w runtime_fourth;
          })) runtime.Idle)))
          (record { pass = zero_pass; turn = word w ready_turn_word })
          (λ fair. on_backend (choose d backend.Stride backend.RoundRobin)
          (record { pass = fair.pass; turn = word w ready_turn_word })
          (record { pass = zero_pass; turn = word w ready_turn_word }))
          (λ b. record { pass = zero_pass; turn = word w ready_turn_word })
          (record { pass = zero_pass; turn = word w ready_turn_word })
          ).pass
          ≡ choose a zero_pass (choose b (choose d (record { high = word w runtime_first; low = word w runtime_second })
          zero_pass) zero_pass)
      go true b c d = refl
      go false true c true = refl
      go false true c false = refl
      go false false true d = refl
      go false false false d = refl

  pub pass_by_tags : {r : Wide} → r ≡ pass_row w → r ≡ (candidate_of (decoded w)).fair_pass
  pass_by_tags e = e ∙ sym pass_row_lem

  lowest_row_lem : (lowest : Option Wide) → lowest_pass lowest (candidate_of (decoded w)) ≡ lowest_row lowest w
  unfolding lowest_pass lowest_row candidate_of given decoded parameters_of if_equal choose
  lowest_row_lem lowest = policy_tag_lem (word w policy_tag)
      (word w fifo_priority) _ _ _ _ ∙ go lowest _ (eqb (word w policy_tag) 0) (eqb (word w policy_tag) 1)
      (eqb (word w policy_tag) 2)
    where
      go : (x y : Option Wide) (a b c : Bool) → choose a x (choose b y (choose c x x)) ≡ choose a x (choose b y x)
      go x y true b c = refl
      go x y false true c = refl
      go x y false false true = refl
      go x y false false false = refl

  pub lowest_by_tags : {r : Option Wide} (lowest : Option Wide) → r ≡ lowest_row lowest w
      → r ≡ lowest_pass lowest (candidate_of (decoded w))
  lowest_by_tags lowest e = e ∙ sym (lowest_row_lem lowest)

  -- The parts of a candidate.
  pub candidate_read : {p : SchedulingParameters} {f : Wide} {a : Bool} → p ≡ parameters_of w
      → f ≡ (candidate_of (decoded w)).fair_pass → a ≡ budget_available_of (decoded w).runtime
      → record { parameters = p; fair_pass = f; turn = word w ready_turn_word; budget_available = a }
      ≡ candidate_of (decoded w)
  unfolding candidate_of given decoded
  candidate_read e₁ e₂ e₃ = rw (e₁, e₂, e₃)

pub protected_by_tag : (tag : ℕ) {r : Bool} → r ≡ protected_tag tag → r ≡ is_protected (role_from tag)
protected_by_tag tag e = e ∙ sym (protected_tag_lem tag)

pub priority_by_tag : (tag : ℕ) {r : Bool} → r ≡ priority_tag tag → r ≡ is_priority (role_from tag)
priority_by_tag tag e = e ∙ sym (priority_tag_lem tag)

-- Demand and lowest pass, each with one more.
pub row_gathered : (g : Gathered) (c : Candidate) {more d : Demand} {l : Option Wide} → more ≡ demand_of c
    → d ≡ joined g.demand more → l ≡ lowest_pass g.fair_min_pass c
    → record { demand = d; fair_min_pass = l } ≡ gathered g c
unfolding gathered add_demand given
row_gathered g c e₁ e₂ e₃ = rw (e₂, e₁, e₃)

pub ruleset by_rows =
    (demand_by_tags, pass_by_tags, lowest_by_tags, candidate_read, protected_by_tag, priority_by_tag, row_gathered)
