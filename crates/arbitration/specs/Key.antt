-- Dispatch keys: the key that a refreshed window gives a candidate. After arbitration.rs.
use Rattle.std.specs.Prelude.{ℕ, Bool, true, false, not, Option, Some, None}
use Rattle.refusal.specs.Cases.{choose, given, if_equal}
use Rattle.policy.specs.PolicyCases.{on_policy, on_role, on_backend}
use Rattle.policy.specs.declared.SchedulingPolicy.{SchedulingPolicy}
use Rattle.policy.specs.declared.SchedulingRole.{SchedulingRole}
use Rattle.policy.specs.declared.SchedulingParameters.{SchedulingParameters}
use Rattle.window_config.specs.declared.ArbitrationOrder.{ArbitrationOrder}
use Rattle.arbitration.specs.declared.CpuWindow.{CpuWindow}
use Rattle.arbitration.specs.declared.Demand.{Demand}
use Rattle.arbitration.specs.declared.Candidate.{Candidate}
pub use Rattle.dispatch_keys.specs.Keys.{key_parts}
unfoldable pub use Rattle.dispatch_keys.specs.Keys.{compare_keys}
use Rattle.arbitration.specs.declared.DispatchMode.TheVariants as mode
use Rattle.arbitration.specs.declared.Tier.{Tier}
use Rattle.arbitration.specs.declared.Algorithm.{Algorithm}
use Rattle.window_config.specs.Config.{accepts_budget}
use Rattle.arbitration.specs.Window.{is_priority, is_protected, due_at}
use Rattle.dispatch_keys.specs.declared.DispatchKey.{DispatchKey}
use Rattle.arbitration.specs.declared.DispatchMode.{DispatchMode}

-- A Budget thread with no time left.
unfoldable pub exhausted_of : Candidate → Bool
exhausted_of c = on_policy c.parameters.policy (λ priority. false) false (not c.budget_available) false

-- An exhausted thread has no key while any FIFO or Fair thread, or a Budget thread with time left, asks for the
-- processor (SPECIFICATION 4.2).
unfoldable pub shut_out : Bool → Demand → Bool
shut_out exhausted d = choose exhausted (choose d.fair true d.eligible_budget) false

unfoldable pub strict_fifo : SchedulingParameters → Bool
strict_fifo p = on_policy p.policy (λ priority. on_role p.role true false false) false false false

-- A protected thread while protection is due, unless it has spent its own budget.
unfoldable pub hurried : Bool → SchedulingRole → Bool → Bool
hurried due r exhausted = choose due (choose exhausted false (is_protected r)) false

-- The priority allowance carries it while any is left: by its role, or as a fair thread where those are preferred.
unfoldable pub favoured : CpuWindow → SchedulingParameters → Bool
favoured w p =
    if_equal w.priority_remaining_ns 0 false
    (choose (is_priority p.role) true
    (choose w.config.prefer_fair (on_policy p.policy (λ priority. false) true false false) false))

-- The algorithm's rank, and its key: the priority for FIFO, the pass for Stride, otherwise the turn. None for Idle.
-- (SPECIFICATION 4.4).
unfoldable pub algorithm_of : Candidate → Option Algorithm
algorithm_of c =
    on_policy c.parameters.policy
    (λ priority. given priority.0
    (λ number. Some (record { rank = 0; key = record { high = 0; low = number } })))
    (on_backend c.parameters.fair_backend
    (Some (record { rank = 1; key = c.fair_pass }))
    (Some (record { rank = 1; key = record { high = 0; low = c.turn } })))
    (Some (record { rank = 2; key = record { high = 0; low = c.turn } }))
    None

unfoldable pub on_algorithm : {A : Type 0} → Option Algorithm → A → (Algorithm → A) → A
on_algorithm None a f = a
on_algorithm (Some x) a f = f x

-- The rank of a thread that nothing hurries, favours or shuts out: a Budget thread's, or that of the others.
unfoldable pub ordinary_rank : SchedulingPolicy → ArbitrationOrder → ℕ
ordinary_rank p o = on_policy p (λ priority. o.fair_rank) o.fair_rank o.budget_rank o.fair_rank

-- Urgency, rank and mode, of a window that is refreshed to now (SPECIFICATION 4.3).
unfoldable pub tier_of : CpuWindow → ℕ → SchedulingParameters → Bool → Demand → Tier
tier_of w now p exhausted d =
    choose (strict_fifo p) (record { urgency = 0; rank = 0; mode = mode.StrictFifo })
    (given (due_at w now d.protected)
    (λ due. choose (hurried due p.role exhausted) (record { urgency = 1; rank = 0; mode = mode.Protected })
    (choose exhausted (record { urgency = 2; rank = w.config.order.borrow_rank; mode = mode.Borrow })
    (choose (favoured w p) (record { urgency = 2; rank = w.config.order.priority_rank; mode = mode.Priority })
    (given (ordinary_rank p.policy w.config.order)
    (λ rank. record { urgency = 2; rank = rank; mode = mode.Ordinary }))))))

-- The key and mode of a candidate, of a window that is refreshed to now; none for Idle, for a budget of another period,
-- and for an exhausted thread that is shut out (SPECIFICATION 4.2).
unfoldable pub key_of : CpuWindow → ℕ → Candidate → Demand → Option (DispatchKey × DispatchMode)
key_of w now c d =
    choose (accepts_budget w.config c.parameters)
    (given (exhausted_of c)
    (λ exhausted. choose (shut_out exhausted d) None
    (on_algorithm (algorithm_of c) None
    (λ a. given (tier_of w now c.parameters exhausted d)
    (λ t. Some (
      (record {
        urgency = t.urgency;
        rank = t.rank;
        algorithm_rank = a.rank;
        algorithm = a.key;
        band = c.parameters.band.0;
        turn = c.turn;
      }),
      t.mode,
    ))))))
    None
