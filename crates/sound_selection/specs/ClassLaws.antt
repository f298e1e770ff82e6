-- Records of one class ask for the same, have keys of one tier, and the order of their tree keys is that of their
-- dispatch keys.
use Rattle.std.specs.Prelude.{ℕ, ◌≤◌, ◌≡◌, Bool, not, Option, Some, None}
use Rattle.std.proofs.lemmas.Option.{some_pair_parts}
use Rattle.std.proofs.Math.Path.{refl, sym, ap, subst}
use Rattle.std.proofs.Common.{◌∙◌, arith}
use Rattle.std.proofs.Math.Bool.{true, false}
use Rattle.refusal.specs.Cases.{never, choose, given}
use Rattle.std.specs.declared.cmp.Ordering.TheVariants.{Less}
use Rattle.policy.specs.declared.FairBackend.{FairBackend}
use Rattle.policy.specs.declared.FairBackend.TheVariants as backend
use Rattle.policy.specs.declared.SchedulingParameters.{SchedulingParameters}
use Rattle.policy.specs.declared.SchedulingPolicy.{SchedulingPolicy}
use Rattle.policy.specs.declared.SchedulingPolicy.TheVariants as policy
use Rattle.policy.specs.declared.ThreadPriority.{ThreadPriority}
use Rattle.policy.specs.declared.SchedulingRole.{SchedulingRole}
use Rattle.policy.specs.declared.SchedulingRole.TheVariants as role
use Rattle.policy.specs.PolicyCases.{on_policy, on_role, on_backend}
use Rattle.algorithms.specs.declared.PolicyRuntime.{PolicyRuntime}
use Rattle.algorithms.specs.declared.PolicyRuntime.TheVariants as runtime
use Rattle.algorithms.specs.Runtime.{on_runtime, candidate_key, zero_pass}
use Rattle.arbitration.specs.declared.CpuWindow.{CpuWindow}
use Rattle.arbitration.specs.declared.Demand.{Demand}
use Rattle.dispatch_keys.specs.declared.DispatchKey.{DispatchKey}
use Rattle.arbitration.specs.declared.DispatchMode.{DispatchMode}
use Rattle.window_config.specs.Config.{accepts_budget}
use Rattle.arbitration.specs.Key.{exhausted_of, shut_out, strict_fifo, favoured, algorithm_of, on_algorithm}
use Rattle.arbitration.specs.Key.{ordinary_rank}
use Rattle.arbitration.specs.Key.{tier_of, key_of}
use Rattle.thread.specs.declared.ThreadRecord.{ThreadRecord}
use Rattle.thread.specs.Filing.{budget_available_of, role_index}
use Rattle.thread.specs.FilingLaws.{role_index_le}
use Rattle.thread.specs.TreeKey.{algorithm_key, tree_key, ready_index_key, parts, compare_tree_keys}
use Rattle.demands.specs.Demands.{candidate_of, demand_of, either, joined, add_demand, on_pass, lowest_pass, gathered}
use Rattle.sound_selection.specs.Within.{AtMost, less, same, pass_parts, PassWithin, Within, alone, pair_parts}
use Rattle.sound_selection.specs.PairLaws.{first_parts, same_first}
use Rattle.sound_selection.specs.Classes.{Class, fifo_class, fair_class, ready_class, exhausted_class, Alike}
use Rattle.sound_selection.specs.Classes.{both_fifo, both_fair, both_budget}
use Rattle.algorithms.specs.declared.Wide.{Wide}

role_same : (r s : SchedulingRole) → role_index r ≡ role_index s → r ≡ s
unfolding role_index on_role
role_same role.Ordinary role.Ordinary e = refl
role_same role.Ordinary role.Priority e = absurd (omega arith)
role_same role.Ordinary role.Protected e = absurd (omega arith)
role_same role.Priority role.Ordinary e = absurd (omega arith)
role_same role.Priority role.Priority e = refl
role_same role.Priority role.Protected e = absurd (omega arith)
role_same role.Protected role.Ordinary e = absurd (omega arith)
role_same role.Protected role.Priority e = absurd (omega arith)
role_same role.Protected role.Protected e = refl

-- Records of one tree are alike.
module _ (k : ℕ) (a b : ThreadRecord) where
  abbrev first_role : ℕ
  first_role = role_index a.parameters.role

  abbrev second_role : ℕ
  second_role = role_index b.parameters.role

  first_low : first_role ≤ 2
  first_low = role_index_le a.parameters.role

  second_low : second_role ≤ 2
  second_low = role_index_le b.parameters.role

  roles : first_role ≡ second_role → a.parameters.role ≡ b.parameters.role
  roles e = role_same a.parameters.role b.parameters.role e

  pub class_alike : Class k a → Class k b → Alike a b
  class_alike (fifo_class p e x) (fifo_class q f y) = both_fifo p q e f (roles (omega arith))
  class_alike (fifo_class p e x) (fair_class f y) = absurd (omega (arith, first_low, second_low))
  class_alike (fifo_class p e x) (ready_class f v y) = absurd (omega (arith, first_low, second_low))
  class_alike (fifo_class p e x) (exhausted_class f v y) = absurd (omega (arith, first_low, second_low))
  class_alike (fair_class e x) (fifo_class q f y) = absurd (omega (arith, first_low, second_low))
  class_alike (fair_class e x) (fair_class f y) = both_fair e f (roles (omega arith))
  class_alike (fair_class e x) (ready_class f v y) = absurd (omega (arith, first_low, second_low))
  class_alike (fair_class e x) (exhausted_class f v y) = absurd (omega (arith, first_low, second_low))
  class_alike (ready_class e u x) (fifo_class q f y) = absurd (omega (arith, first_low, second_low))
  class_alike (ready_class e u x) (fair_class f y) = absurd (omega (arith, first_low, second_low))
  class_alike (ready_class e u x) (ready_class f v y) = both_budget e f (roles (omega arith)) (u ∙ sym v)
  class_alike (ready_class e u x) (exhausted_class f v y) = absurd (omega (arith, first_low, second_low))
  class_alike (exhausted_class e u x) (fifo_class q f y) = absurd (omega (arith, first_low, second_low))
  class_alike (exhausted_class e u x) (fair_class f y) = absurd (omega (arith, first_low, second_low))
  class_alike (exhausted_class e u x) (ready_class f v y) = absurd (omega (arith, first_low, second_low))
  class_alike (exhausted_class e u x) (exhausted_class f v y) = both_budget e f (roles (omega arith)) (u ∙ sym v)

-- They ask for the same.
pub alike_demand : (a b : ThreadRecord) → Alike a b → demand_of (candidate_of a) ≡ demand_of (candidate_of b)
unfolding demand_of candidate_of given on_policy
alike_demand a b (both_fifo p q e f r) = rw (e, f, r)
alike_demand a b (both_fair e f r) = rw (e, f, r)
alike_demand a b (both_budget e f r v) = rw (e, f, r, v)

-- A dispatch key over a tree key's parts, with this urgency, rank and algorithm rank.
abbrev dispatch : ℕ → ℕ → ℕ → ThreadRecord → DispatchKey
dispatch urgency rank n r =
    record {
      urgency = urgency;
      rank = rank;
      algorithm_rank = n;
      algorithm = algorithm_key r.parameters r.runtime r.ready_turn;
      band = r.parameters.band.0;
      turn = r.ready_turn;
    }

-- The order of tree keys is that of dispatch keys with numbers.
tree_order : (urgency rank n i j : ℕ) (a b : ThreadRecord)
    → compare_tree_keys (ready_index_key a i) (ready_index_key b j) ≡ Less
    → AtMost (pair_parts (dispatch urgency rank n a) i) (pair_parts (dispatch urgency rank n b) j)
unfolding compare_tree_keys parts ready_index_key tree_key
tree_order urgency rank n i j a b h = less (same_first urgency _ _ ∙ same_first rank _ _ ∙ same_first n _ _ ∙ h)

module _ (w : CpuWindow) (now : ℕ) (d : Demand) where
  -- The key that a window gives a record: none where it is shut out, else over its tree key's parts. x: it is
  -- exhausted; n: the algorithm's rank.
  abbrev formed : Bool → ℕ → ThreadRecord → Option (DispatchKey × DispatchMode)
  formed x n r =
      choose (shut_out x d) None
      (Some (
        (dispatch (tier_of w now r.parameters x d).urgency (tier_of w now r.parameters x d).rank n r),
        (tier_of w
            now r.parameters x d).mode,
      ))

  module _ (r : ThreadRecord) (acc : accepts_budget w.config r.parameters ≡ true) where
    fifo_key_lem : (p : ThreadPriority) → r.parameters.policy ≡ policy.Fifo p
        → key_of w now (candidate_of r) d ≡ formed false 0 r
    unfolding key_of candidate_of given exhausted_of algorithm_of on_algorithm algorithm_key on_policy choose
    fifo_key_lem p e = rw (acc, e)

    budget_key : r.parameters.policy ≡ policy.Budget
        → key_of w now (candidate_of r) d ≡ formed (not (budget_available_of r.runtime)) 2 r
    unfolding key_of candidate_of given exhausted_of algorithm_of on_algorithm algorithm_key on_policy choose
    budget_key e = rw (acc, e)

    fair_key : r.parameters.policy ≡ policy.Fair → key_of w now (candidate_of r) d ≡ formed false 1 r
    unfolding key_of candidate_of given exhausted_of algorithm_of on_algorithm algorithm_key on_policy choose on_backend
    fair_key e = go r.parameters.fair_backend refl
      where
        go : (b : FairBackend) → r.parameters.fair_backend ≡ b → key_of w now (candidate_of r) d ≡ formed false 1 r
        go backend.Stride f = rw (acc, e, f)
        go backend.RoundRobin f = rw (acc, e, f)

  -- One tier.
  tier_same : (a b : ThreadRecord) (x : Bool) → Alike a b
      → tier_of w now a.parameters x d ≡ tier_of w now b.parameters x d
  unfolding tier_of strict_fifo favoured ordinary_rank on_policy given
  tier_same a b x (both_fifo p q e f r) = rw (e, f, r)
  tier_same a b x (both_fair e f r) = rw (e, f, r)
  tier_same a b x (both_budget e f r v) = rw (e, f, r)

  -- The first of two has a key that is at most this one, with its number.
  pub record Before (i j : ℕ) (a : ThreadRecord) (k : DispatchKey) : Type 0 where
    pub first : DispatchKey
    pub mode : DispatchMode
    pub has_key : key_of w now (candidate_of a) d ≡ Some (first, mode)
    pub at_most : AtMost (pair_parts first i) (pair_parts k j)

  before_by : (i j : ℕ) (a b : ThreadRecord) (x : Bool) (n : ℕ) (k : DispatchKey) (m : DispatchMode)
      → compare_tree_keys (ready_index_key a i) (ready_index_key b j) ≡ Less
      → tier_of w now a.parameters x d ≡ tier_of w now b.parameters x d
      → key_of w now (candidate_of a) d ≡ formed x n a → key_of w now (candidate_of b) d ≡ formed x n b
      → key_of w now (candidate_of b) d ≡ Some (k, m) → Before i j a k
  unfolding choose
  before_by i j a b x n k m h t e f g = go (shut_out x d) refl
    where
      go : (y : Bool) → shut_out x d ≡ y → Before i j a k
      go true z = let q : ◌≡◌ {A = Option (DispatchKey × DispatchMode)} None (Some (k, m)) = sym (f ∙ rw z)
          ∙ g in never cc
      go false z =
          let q : ◌≡◌ {A = Option (DispatchKey × DispatchMode)} (Some (
            (dispatch (tier_of w now b.parameters x d).urgency
                (tier_of w now b.parameters x d).rank n b),
            (tier_of w now b.parameters x d).mode,
          ))
          (Some (k, m)) = sym (f ∙ rw z) ∙ g in
          let p : dispatch (tier_of w now b.parameters x d).urgency (tier_of w now b.parameters x d).rank n b
          ≡ k = (some_pair_parts _ _ _ _ q).0 in
          record {
            first = dispatch (tier_of w now b.parameters x d).urgency (tier_of w now b.parameters x d).rank n a;
            mode = (tier_of w now b.parameters x d).mode;
            has_key = e ∙ rw (z, t);
            at_most = subst (λ (y : DispatchKey). AtMost
                (pair_parts (dispatch (tier_of w now b.parameters x d).urgency
                (tier_of w now b.parameters x d).rank n a) i) (pair_parts y j)) p
                (tree_order (tier_of w now b.parameters x d).urgency
                (tier_of w now b.parameters x d).rank n i j a b h);
          }

  -- The head of a tree comes before every other thread of it.
  pub alike_before : (i j : ℕ) (a b : ThreadRecord) (k : DispatchKey) (m : DispatchMode) → Alike a b
      → accepts_budget w.config a.parameters ≡ true → accepts_budget w.config b.parameters ≡ true
      → compare_tree_keys (ready_index_key a i) (ready_index_key b j) ≡ Less
      → key_of w now (candidate_of b) d ≡ Some (k, m)
      → Before i j a k
  alike_before i j a b k m (both_fifo p q e f r) u v h g =
      before_by i j a b false 0 k m h (tier_same a b false (both_fifo p q e f r)) (fifo_key_lem a u p e)
      (fifo_key_lem b v q f) g
  alike_before i j a b k m (both_fair e f r) u v h g =
      before_by i j a b false 1 k m h (tier_same a b false (both_fair e f r)) (fair_key a u e) (fair_key b v f) g
  alike_before i j a b k m (both_budget e f r l) u v h g =
      before_by i j a b (not (budget_available_of b.runtime)) 2 k m h
      (tier_same a b (not (budget_available_of b.runtime)) (both_budget e f r l))
      (subst (λ y. key_of w now (candidate_of a) d ≡ formed (not y) 2 a) l (budget_key a u e)) (budget_key b v f) g

-- A round robin thread counts as pass 0.
round_robin_pass : (x : PolicyRuntime) (p : SchedulingParameters) (turn : ℕ) → p.fair_backend ≡ backend.RoundRobin
    → (candidate_key x p turn).pass ≡ zero_pass
unfolding candidate_key on_runtime on_backend
round_robin_pass runtime.Fifo p turn e = refl
round_robin_pass (runtime.Fair f) p turn e = rw e
round_robin_pass (runtime.Budget b) p turn e = refl
round_robin_pass runtime.Idle p turn e = refl

stride_pass : (r : ThreadRecord) → r.parameters.policy ≡ policy.Fair → r.parameters.fair_backend ≡ backend.Stride
    → algorithm_key r.parameters r.runtime r.ready_turn ≡ (candidate_key r.runtime r.parameters
    r.ready_turn).pass
unfolding algorithm_key on_policy on_backend given
stride_pass r e f = rw (e, f)

module _ (i j : ℕ) (a b : ThreadRecord) where
  -- In key order, the first one's pass is at most the other's, where both are of one backend.
  pass_order : (f : FairBackend) → a.parameters.policy ≡ policy.Fair → b.parameters.policy ≡ policy.Fair
      → a.parameters.fair_backend ≡ f → b.parameters.fair_backend ≡ f
      → compare_tree_keys (ready_index_key a i) (ready_index_key b j) ≡ Less
      → AtMost (pass_parts (candidate_key a.runtime a.parameters a.ready_turn).pass)
      (pass_parts (candidate_key b.runtime b.parameters b.ready_turn).pass)
  unfolding compare_tree_keys parts ready_index_key tree_key
  pass_order backend.Stride p q e f h =
      subst (λ x. AtMost (pass_parts x) (pass_parts (candidate_key b.runtime b.parameters b.ready_turn).pass))
      (stride_pass a p e)
      (subst (λ x. AtMost (pass_parts (algorithm_key a.parameters a.runtime a.ready_turn)) (pass_parts x))
      (stride_pass b q f)
      (first_parts (pass_parts (algorithm_key a.parameters a.runtime a.ready_turn))
      (pass_parts (algorithm_key b.parameters b.runtime b.ready_turn)) _ _ refl h))
  pass_order backend.RoundRobin p q e f h =
      same (ap pass_parts (round_robin_pass a.runtime a.parameters a.ready_turn e
      ∙ sym (round_robin_pass b.runtime b.parameters b.ready_turn f)))

  abbrev lowest_of : ThreadRecord → Option Wide
  lowest_of r = lowest_pass None (candidate_of r)

  no_pass : (r : ThreadRecord) (p : SchedulingPolicy) → r.parameters.policy ≡ p → (p ≡ policy.Fair → ⊥)
      → lowest_of r ≡ None
  unfolding lowest_pass candidate_of given on_policy
  no_pass r (policy.Fifo q) e n = rw e
  no_pass r policy.Fair e n = absurd (n refl)
  no_pass r policy.Budget e n = rw e
  no_pass r policy.Idle e n = rw e

  fair_pass_lem : (r : ThreadRecord) → r.parameters.policy ≡ policy.Fair
      → lowest_of r ≡ Some (candidate_key r.runtime r.parameters r.ready_turn).pass
  unfolding lowest_pass candidate_of given on_policy on_pass
  fair_pass_lem r e = rw e

  alike_pass : Alike a b → ((e : b.parameters.policy ≡ policy.Fair)
      → (f : FairBackend) × (a.parameters.fair_backend ≡ f) × (b.parameters.fair_backend ≡ f))
      → compare_tree_keys (ready_index_key a i) (ready_index_key b j) ≡ Less → PassWithin (lowest_of b) (lowest_of a)
  alike_pass (both_fifo p q e f r) g h =
      subst (λ x. PassWithin x (lowest_of a)) (sym (no_pass b (policy.Fifo q) f (λ z. never cc))) tt
  alike_pass (both_fair e f r) g h =
      let c = g f in
      subst (λ x. PassWithin x (lowest_of a)) (sym (fair_pass_lem b f))
      (subst (λ x. PassWithin (Some (candidate_key b.runtime b.parameters b.ready_turn).pass) x)
      (sym (fair_pass_lem a e)) (pass_order c.0 e f c.1 c.2 h))
  alike_pass (both_budget e f r l) g h =
      subst (λ x. PassWithin x (lowest_of a)) (sym (no_pass b policy.Budget f (λ z. never cc))) tt

  -- The head of a tree asks for what every other thread of it asks for.
  pub alike_within : Alike a b → ((e : b.parameters.policy ≡ policy.Fair)
      → (f : FairBackend) × (a.parameters.fair_backend ≡ f) × (b.parameters.fair_backend ≡ f))
      → compare_tree_keys (ready_index_key a i) (ready_index_key b j) ≡ Less
      → Within (alone (candidate_of b)) (alone (candidate_of a))
  unfolding gathered given add_demand joined either choose
  alike_within l g h =
      let e = alike_demand a b l in
      record {
        protected = λ x. ap (λ (y : Demand). y.protected) e ∙ x;
        fair = λ x. ap (λ (y : Demand). y.fair) e ∙ x;
        sensitive = λ x. ap (λ (y : Demand). y.window_sensitive) e ∙ x;
        eligible = λ x. ap (λ (y : Demand). y.eligible_budget) e ∙ x;
        any = λ x. ap (λ (y : Demand). y.any_budget) e ∙ x;
        lowest = alike_pass l g h;
      }
