-- A FIFO thread with a lesser turn comes before every other of its priority, band and role: by its tree key, and by its
-- dispatch key under any window and demand.
use Rattle.std.specs.Prelude.{ℕ, ◌<◌, ◌≡◌, refl, true, false, Some, None}
use Rattle.std.proofs.Common.{sym, ◌∙◌}
use Rattle.refusal.specs.Cases.{choose, given}
use Rattle.std.specs.declared.cmp.Ordering.TheVariants.{Less}
use Rattle.order.specs.Order.{then_by, compare_parts}
use Rattle.order.specs.StrictOrder.{compare_less, compare_equal}
use Rattle.policy.specs.declared.ThreadPriority.{ThreadPriority}
use Rattle.policy.specs.declared.SchedulingParameters.{SchedulingParameters}
use Rattle.policy.specs.declared.SchedulingPolicy.TheVariants as policy
use Rattle.policy.specs.PolicyCases.{on_policy, on_budget}
use Rattle.thread.specs.declared.ThreadRecord.{ThreadRecord}
use Rattle.thread.specs.TreeKey.{algorithm_key, tree_key, ready_index_key, parts, compare_tree_keys}
use Rattle.window_config.specs.declared.ArbitrationConfig.{ArbitrationConfig}
use Rattle.arbitration.specs.declared.CpuWindow.{CpuWindow}
use Rattle.arbitration.specs.declared.Demand.{Demand}
use Rattle.arbitration.specs.declared.Candidate.{Candidate}
use Rattle.dispatch_keys.specs.declared.DispatchKey.{DispatchKey}
use Rattle.arbitration.specs.declared.DispatchMode.{DispatchMode}
use Rattle.window_config.specs.Config.{accepts_budget}
use Rattle.arbitration.specs.Key.{exhausted_of, shut_out, strict_fifo, favoured, algorithm_of, on_algorithm}
use Rattle.arbitration.specs.Key.{tier_of, key_of, compare_keys}

-- Two threads of one FIFO priority and band; r has the lesser turn.
pub record Alike (p q : SchedulingParameters) : Type 0 where
  pub priority : ThreadPriority
  pub first : p.policy ≡ policy.Fifo priority
  pub second : q.policy ≡ policy.Fifo priority
  pub band : p.band.0 ≡ q.band.0

fifo_algorithm : (p : SchedulingParameters) (r : ThreadRecord) (n : ℕ) (x : ThreadPriority) → p.policy ≡ policy.Fifo x
    → algorithm_key p r.runtime n ≡ record { high = 0; low = x.0 }
unfolding algorithm_key on_policy
fifo_algorithm p r n x e = rw e

pub tree_key_less : (r s : ThreadRecord) (i j : ℕ) → Alike r.parameters s.parameters
    → r.ready_turn < s.ready_turn
    → compare_tree_keys (ready_index_key r i) (ready_index_key s j) ≡ Less
unfolding compare_tree_keys parts ready_index_key tree_key compare_parts then_by
tree_key_less r s i j a h =
    rw (
      fifo_algorithm r.parameters r r.ready_turn a.priority a.first,
      fifo_algorithm s.parameters s s.ready_turn a.priority a.second,
      compare_equal 0 0 refl,
      compare_equal a.priority.0 a.priority.0 refl,
      compare_equal r.parameters.band.0 s.parameters.band.0 a.band,
      compare_less r.ready_turn s.ready_turn h,
    )

-- The key of a FIFO candidate without a budget, of this urgency and rank.
abbrev fifo_key : ℕ → ℕ → Candidate → ThreadPriority → DispatchKey
fifo_key urgency rank a x =
    record {
      urgency = urgency;
      rank = rank;
      algorithm_rank = 0;
      algorithm = record { high = 0; low = x.0 };
      band = a.parameters.band.0;
      turn = a.turn;
    }

fifo_exhausted : (a : Candidate) (x : ThreadPriority) → a.parameters.policy ≡ policy.Fifo x → exhausted_of a ≡ false
unfolding exhausted_of on_policy
fifo_exhausted a x e = rw e

accepted : (c : ArbitrationConfig) (p : SchedulingParameters) → p.budget ≡ None → accepts_budget c p ≡ true
unfolding accepts_budget on_budget
accepted c p e = rw e

fifo_key_lem : (w : CpuWindow) (now : ℕ) (d : Demand) (a : Candidate) (x : ThreadPriority)
    → a.parameters.policy ≡ policy.Fifo x → a.parameters.budget ≡ None
    → key_of w now a d ≡ Some (
      (fifo_key (tier_of w now a.parameters false d).urgency (tier_of w now a.parameters false
          d).rank a x),
      (tier_of w now a.parameters false d).mode,
    )
unfolding key_of choose given shut_out algorithm_of on_algorithm on_policy
fifo_key_lem w now d a x e n = rw (accepted w.config a.parameters n, fifo_exhausted a x e, e)

-- Urgency, rank and mode of two FIFO threads of one role are the same.
strict_same : (p q : SchedulingParameters) → p.policy ≡ q.policy → p.role ≡ q.role → strict_fifo p ≡ strict_fifo q
unfolding strict_fifo
strict_same p q e f = rw (e, f)

favoured_same : (w : CpuWindow) (p q : SchedulingParameters) → p.policy ≡ q.policy → p.role ≡ q.role
    → favoured w p ≡ favoured w q
unfolding favoured
favoured_same w p q e f = rw (e, f)

tier_same : (w : CpuWindow) (now : ℕ) (d : Demand) (p q : SchedulingParameters) → p.policy ≡ q.policy
    → p.role ≡ q.role → tier_of w now p false d ≡ tier_of w now q false d
unfolding tier_of
tier_same w now d p q e f = rw (strict_same p q e f, favoured_same w p q e f, e, f)

-- Both have a key, of one mode, and the first's is the lesser.
pub record Ahead (w : CpuWindow) (now : ℕ) (d : Demand) (a b : Candidate) : Type 0 where
  pub key : DispatchKey
  pub other : DispatchKey
  pub mode : DispatchMode
  pub has : key_of w now a d ≡ Some (key, mode)
  pub other_has : key_of w now b d ≡ Some (other, mode)
  pub less : compare_keys key other ≡ Less

fifo_less : (urgency rank : ℕ) (a b : Candidate) (x : ThreadPriority) → a.parameters.band.0 ≡ b.parameters.band.0
    → a.turn < b.turn
    → compare_keys (fifo_key urgency rank a x) (fifo_key urgency rank b x) ≡ Less
unfolding compare_keys compare_parts then_by
fifo_less urgency rank a b x e h =
    rw (
      compare_equal urgency urgency refl,
      compare_equal rank rank refl,
      compare_equal 0 0 refl,
      compare_equal x.0 x.0 refl,
      compare_equal a.parameters.band.0 b.parameters.band.0 e,
      compare_less a.turn b.turn h,
    )

pub dispatch_key_less : (w : CpuWindow) (now : ℕ) (d : Demand) (a b : Candidate) → Alike a.parameters b.parameters
    → a.parameters.role ≡ b.parameters.role
    → a.parameters.budget ≡ None → b.parameters.budget ≡ None → a.turn < b.turn → Ahead w now d a b
dispatch_key_less w now d a b x r m n h =
    record {
      key =
          fifo_key (tier_of w now a.parameters false d).urgency (tier_of w now a.parameters false d).rank a
          x.priority;
      other =
          fifo_key (tier_of w now a.parameters false d).urgency (tier_of w now a.parameters false d).rank b
          x.priority;
      mode = (tier_of w now a.parameters false d).mode;
      has = fifo_key_lem w now d a x.priority x.first m;
      other_has =
          rw (tier_same w now d a.parameters b.parameters (x.first ∙ sym x.second) r)
          (fifo_key_lem w now d b x.priority x.second n);
      less =
          fifo_less (tier_of w now a.parameters false d).urgency (tier_of w now a.parameters false d).rank a b
          x.priority x.band h;
    }
