-- Laws of keys: the algorithm's part of a row's key by the row's tags.
use Rattle.std.specs.Prelude.{ℕ, ◌%◌, ◌≡◌, refl, Bool, true, false, List, eqb}
use Rattle.std.proofs.Math.Path.{sym}
use Rattle.std.proofs.Common.{◌∙◌}
use borrow.Author.Tests.{ne_eqb}
use Rattle.refusal.specs.Cases.{choose, given, if_equal}
use Rattle.policy.specs.declared.SchedulingParameters.{SchedulingParameters}
use Rattle.policy.specs.declared.SchedulingPolicy.TheVariants as policy
use Rattle.policy.specs.declared.FairBackend.TheVariants as backend
use Rattle.policy.specs.PolicyCases.{on_policy, on_backend}
use Rattle.budget.specs.declared.BudgetRuntime.{BudgetRuntime}
use Rattle.algorithms.specs.declared.PolicyRuntime.{PolicyRuntime}
use Rattle.algorithms.specs.declared.PolicyRuntime.TheVariants as runtime
use Rattle.algorithms.specs.Runtime.{on_runtime, zero_pass, candidate_key}
use Rattle.thread.specs.TreeKey.{wide, algorithm_key}
use Rattle.codec.specs.Codec.{word, policy_from, backend_from, epoch_from, runtime_from, parameters_of, runtime_of}
use Rattle.codec.specs.Codec.{ready_turn_word}
use Rattle.policy_words.specs.PolicyWords.{policy_tag, fifo_priority, backend_tag, runtime_tag, runtime_first}
use Rattle.policy_words.specs.PolicyWords.{runtime_second, runtime_third, runtime_fourth}

-- A Stride record's algorithm is its pass, and that is 0 where the runtime is not Fair.
stride_key : (p : SchedulingParameters) (r : PolicyRuntime) (turn : ℕ) → p.policy ≡ policy.Fair
    → p.fair_backend ≡ backend.Stride
    → algorithm_key p r turn ≡ (candidate_key r p turn).pass
unfolding algorithm_key on_policy on_backend given
stride_key p r turn e f = rw (e, f)

fair_pass_lem : (tag a b c d : ℕ) (p : SchedulingParameters) (turn : ℕ) → tag ≡ 1 → p.fair_backend ≡ backend.Stride
    → (candidate_key (runtime_from tag a b c d) p turn).pass ≡ record { high = a; low = b }
unfolding candidate_key on_runtime on_backend runtime_from if_equal choose
fair_pass_lem tag a b c d p turn e f = rw (e, f)

other_pass : (x y : Bool) (b : BudgetRuntime) (p : SchedulingParameters) (turn : ℕ)
    → (candidate_key (choose x runtime.Fifo (choose y (runtime.Budget b) runtime.Idle)) p turn).pass ≡ zero_pass
unfolding candidate_key on_runtime choose
other_pass true y b p turn = refl
other_pass false true b p turn = refl
other_pass false false b p turn = refl

no_pass : (tag a b c d : ℕ) (p : SchedulingParameters) (turn : ℕ) → (tag ≡ 1 → ⊥)
    → (candidate_key (runtime_from tag a b c d) p turn).pass ≡ zero_pass
unfolding runtime_from given if_equal choose
no_pass tag a b c d p turn h =
    rw (ne_eqb tag 1 h) (other_pass (eqb tag 0) (eqb tag 2)
    (record { epoch = epoch_from a b; remaining_ns = c; burst_remaining_ns = d }) p turn)

-- Every policy but FIFO and Fair has the turn.
other_key : (y : Bool) (p : SchedulingParameters) (r : PolicyRuntime) (turn : ℕ)
    → p.policy ≡ choose y policy.Budget policy.Idle → algorithm_key p r turn ≡ wide turn
unfolding algorithm_key on_policy choose
other_key true p r turn e = rw e
other_key false p r turn e = rw e

module _ (w : List ℕ) where
  fair_row_lem : word w policy_tag ≡ 1 → (parameters_of w).policy ≡ policy.Fair
  unfolding parameters_of policy_from if_equal choose
  fair_row_lem h = rw h

  stride_row : word w backend_tag ≡ 0 → (parameters_of w).fair_backend ≡ backend.Stride
  unfolding parameters_of backend_from if_equal choose
  stride_row h = rw h

  pub by_priority : word w policy_tag ≡ 0
      → wide (word w fifo_priority % 256) ≡ algorithm_key (parameters_of w) (runtime_of w) (word w ready_turn_word)
  unfolding algorithm_key on_policy parameters_of policy_from if_equal choose
  by_priority h = rw h

  pub by_pass : word w policy_tag ≡ 1 → word w backend_tag ≡ 0 → word w runtime_tag ≡ 1
      → record { high = word w runtime_first; low = word w runtime_second }
      ≡ algorithm_key (parameters_of w) (runtime_of w)
      (word w ready_turn_word)
  unfolding runtime_of
  by_pass p q r =
      sym (stride_key (parameters_of w) (runtime_of w) (word w ready_turn_word) (fair_row_lem p) (stride_row q)
      ∙ fair_pass_lem (word w runtime_tag) (word w runtime_first) (word w runtime_second) (word w runtime_third)
      (word w runtime_fourth) (parameters_of w) (word w ready_turn_word) r (stride_row q))

  pub without_pass : word w policy_tag ≡ 1 → word w backend_tag ≡ 0 → (word w runtime_tag ≡ 1 → ⊥)
      → zero_pass ≡ algorithm_key (parameters_of w) (runtime_of w) (word w ready_turn_word)
  unfolding runtime_of
  without_pass p q r =
      sym (stride_key (parameters_of w) (runtime_of w) (word w ready_turn_word) (fair_row_lem p) (stride_row q)
      ∙ no_pass (word w runtime_tag) (word w runtime_first) (word w runtime_second) (word w runtime_third)
      (word w runtime_fourth) (parameters_of w) (word w ready_turn_word) r)

  pub in_rotation : word w policy_tag ≡ 1 → (word w backend_tag ≡ 0 → ⊥)
      → wide (word w ready_turn_word) ≡ algorithm_key (parameters_of w) (runtime_of w) (word w ready_turn_word)
  unfolding algorithm_key on_policy on_backend parameters_of policy_from backend_from if_equal choose
  in_rotation p q = rw (p, ne_eqb (word w backend_tag) 0 q)

  other_row : (word w policy_tag ≡ 0 → ⊥) → (word w policy_tag ≡ 1 → ⊥)
      → (parameters_of w).policy ≡ choose (eqb (word w policy_tag) 2) policy.Budget policy.Idle
  unfolding parameters_of policy_from if_equal choose
  other_row p q = rw (ne_eqb (word w policy_tag) 0 p, ne_eqb (word w policy_tag) 1 q)

  pub by_turn : (word w policy_tag ≡ 0 → ⊥) → (word w policy_tag ≡ 1 → ⊥)
      → wide (word w ready_turn_word) ≡ algorithm_key (parameters_of w) (runtime_of w) (word w ready_turn_word)
  by_turn p q =
      sym (other_key (eqb (word w policy_tag) 2) (parameters_of w) (runtime_of w) (word w ready_turn_word)
      (other_row p q))

pub ruleset by_tags = (by_priority, by_pass, without_pass, in_rotation, by_turn)
