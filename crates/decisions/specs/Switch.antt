-- The switch rule: whether the current thread gives way to the ready one, and to which end it then goes. After
-- `choose_ready` of scheduler/state/runtime.rs.
use Rattle.std.specs.Prelude.{Bool, true, false, not, List, [], ◌∷◌, Option, Some, None}
use Rattle.refusal.specs.Cases.{choose, given, if_equal}
use Rattle.std.specs.declared.cmp.Ordering.{Ordering}
use Rattle.order.specs.Order.{compare_parts, on_ordering}
use Rattle.policy.specs.declared.FairBackend.{FairBackend}
use Rattle.policy.specs.declared.SchedulingParameters.{SchedulingParameters}
use Rattle.policy.specs.PolicyCases.{on_policy, on_backend}
use Rattle.algorithms.specs.declared.PolicyRuntime.{PolicyRuntime}
use Rattle.algorithms.specs.Runtime.{on_runtime}
use Rattle.dispatch_keys.specs.declared.DispatchKey.{DispatchKey}
use Rattle.arbitration.specs.declared.DispatchMode.{DispatchMode}
use Rattle.arbitration.specs.Key.{compare_keys}
use Rattle.decisions.specs.declared.Choice.{Choice}

-- `expired` of a runtime: a fair thread's slice or a budget's burst is spent.
unfoldable pub spent : PolicyRuntime → Bool
spent x =
    on_runtime x false (λ fair. if_equal fair.remaining_ns 0 true false)
    (λ b. if_equal b.burst_remaining_ns 0 true false) false

-- None first.
unfoldable pub on_ready : {A : Type 0} → Option DispatchKey → A → (DispatchKey → A) → A
on_ready None a f = a
on_ready (Some k) a f = f k

unfoldable pub on_key : {A : Type 0} → Option (DispatchKey × DispatchMode) → A → (DispatchKey → DispatchMode → A) → A
on_key None a f = a
on_key (Some (k, m)) a f = f k m

-- Rank and algorithm rank.
unfoldable pub compare_ranks : DispatchKey → DispatchKey → Ordering
compare_ranks a b = compare_parts (a.rank ∷ a.algorithm_rank ∷ []) (b.rank ∷ b.algorithm_rank ∷ [])

-- Urgency, rank and algorithm rank, compared in that order.
unfoldable pub compare_bands : DispatchKey → DispatchKey → Ordering
compare_bands a b =
    compare_parts (a.urgency ∷ a.rank ∷ a.algorithm_rank ∷ []) (b.urgency ∷ b.rank ∷ b.algorithm_rank ∷ [])

unfoldable pub compare_algorithms : DispatchKey → DispatchKey → Ordering
compare_algorithms a b =
    compare_parts (a.algorithm.high ∷ a.algorithm.low ∷ []) (b.algorithm.high ∷ b.algorithm.low ∷ [])

-- Whether the ready key is less than the current one.
unfoldable pub lesser : DispatchKey → DispatchKey → Bool
lesser a b = on_ordering (compare_keys a b) true false false

-- On equal urgency, rank and algorithm rank, a FIFO thread: to a lesser algorithm key, or to an equal one where it
-- yields or goes to the tail.
unfoldable pub fifo_switches : DispatchKey → DispatchKey → Bool → Bool → Bool
fifo_switches a b yielding tail = on_ordering (compare_algorithms a b) true (choose yielding true tail) false

-- A Fair thread: where it yields or its slice expired; under Stride an expired one "yields only to a lesser whole key".
unfoldable pub fair_switches : DispatchKey → DispatchKey → FairBackend → Bool → Bool → Bool
fair_switches a b backend expired yielding =
    choose yielding true (choose expired (on_backend backend (lesser a b) true) false)

-- A Budget thread: where it yields or its burst is spent.
unfoldable pub switches_among : DispatchKey → DispatchKey → SchedulingParameters → Bool → Bool → Bool → Bool
switches_among a b p expired yielding tail =
    on_policy p.policy
    (λ priority. fifo_switches a b yielding tail)
    (fair_switches a b p.fair_backend expired yielding)
    (choose yielding true expired)
    true

-- On a lower band: a yielding Fair or Budget thread gives way to any.
unfoldable pub switches_below : SchedulingParameters → Bool → Bool
switches_below p yielding = on_policy p.policy (λ priority. false) yielding yielding true

-- The ready key a against the current one's b: a higher band always switches (SPECIFICATION 10.5).
unfoldable pub switches : DispatchKey → DispatchKey → SchedulingParameters → Bool → Bool → Bool → Bool
switches a b p expired yielding tail =
    on_ordering (compare_bands a b) true (switches_among a b p expired yielding tail) (switches_below p yielding)

-- No ready thread: no switch. A current thread without a key gives way to any.
unfoldable pub should_switch_of : Option DispatchKey → Option (DispatchKey × DispatchMode) → SchedulingParameters
    → Bool → Bool → Bool → Bool
should_switch_of r k p expired yielding tail =
    on_ready r false (λ a. on_key k true (λ b m. switches a b p expired yielding tail))

-- A thread that neither expired nor yields keeps its place in front.
unfoldable pub goes_to_front : Bool → Bool → Bool
goes_to_front expired yielding = choose expired false (not yielding)

-- SPECIFICATION 10.5.
unfoldable pub choose_ready : Option DispatchKey → Option (DispatchKey × DispatchMode) → SchedulingParameters → Bool
    → Bool → Bool → Choice
choose_ready r k p expired yielding tail =
    given (should_switch_of r k p expired yielding tail)
    (λ switch. given (goes_to_front expired yielding)
    (λ front. record { should_switch = switch; front = front }))

-- The mode of a key, for the choice of deadline and for accounting.
unfoldable pub mode_of : Option (DispatchKey × DispatchMode) → Option DispatchMode
mode_of k = on_key k None (λ a m. Some m)
