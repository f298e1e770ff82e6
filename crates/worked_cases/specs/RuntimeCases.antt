-- Document 01's sentences about state/runtime.rs on numbers: turns and preparing, accounting, the switch rule, the end
-- of a turn, deadlines. What the source decides is what the running Rust answers (host/kernel/tests/decisions.rs).
use Rattle.std.specs.Prelude.{ℕ, Bool, true, false, List, [], ◌∷◌, ◌++◌, Option, Some, None}
use Rattle.refusal.specs.Answer.{Answer, value, refused}
use Rattle.policy.specs.declared.FairBackend.{FairBackend}
use Rattle.policy.specs.declared.FairBackend.TheVariants as backend
use Rattle.policy.specs.declared.SchedulingParameters.{SchedulingParameters}
use Rattle.policy.specs.declared.SchedulingPolicy.TheVariants as policy
use Rattle.policy.specs.declared.SchedulingRole.{SchedulingRole}
use Rattle.policy.specs.declared.SchedulingRole.TheVariants as role
use Rattle.policy.specs.Parameters.{default_weight, of_budget, of_fifo}
use Rattle.algorithms.specs.declared.PolicyRuntime.{PolicyRuntime}
use Rattle.algorithms.specs.declared.PolicyRuntime.TheVariants as runtime
use Rattle.arbitration.specs.declared.CpuWindow.{CpuWindow}
use Rattle.dispatch_keys.specs.declared.DispatchKey.{DispatchKey}
use Rattle.arbitration.specs.declared.DispatchMode.TheVariants as mode
use Rattle.arbitration.specs.Calls.{With, with}
use Rattle.thread.specs.declared.ThreadRecord.{ThreadRecord}
use Rattle.rows.specs.Table.{Out, out, record_of}
use Rattle.selection.specs.Samples.{window, thread}
use Rattle.decisions.specs.declared.Contention.{Contention}
use Rattle.decisions.specs.declared.Taken.{Taken}
use Rattle.decisions.specs.declared.Turns.{Turns}
use Rattle.decisions.specs.Turns.{new_turns, turn_for}
use Rattle.decisions.specs.Switch.{should_switch_of}
use Rattle.runtime.specs.Prepare.{Counted, counted, prepare_enqueue}
use Rattle.runtime.specs.Account.{account_current, finish_turn}
use Rattle.runtime.specs.Deadline.{refresh_deadline}
use Rattle.worked_cases.specs.Rows.{Row, row, bit, numbered}
use Rattle.worked_cases.specs.Seen.{none, some, runtimes_seen}
use Rattle.arbitration.specs.declared.DispatchMode.{DispatchMode}

-- ---- What is looked at.
-- The turn and the counters afterwards.
abbrev taken_seen : Answer Taken → List ℕ
taken_seen (value t) = 0 ∷ t.turn ∷ t.turns.back ∷ t.turns.front ∷ []
taken_seen (refused n) = n ∷ []

-- The answer, the back counter, and the record's turn and runtime.
abbrev prepared_seen : Out Counted → List ℕ
prepared_seen (out (counted a c) t) = numbered a ∷ c.back ∷ (record_of t 0).ready_turn ∷ runtimes_seen (0 ∷ []) t

-- The answer, what the window has left of allowance and floor, and the record's runtime.
abbrev accounted_seen : {A : Type 0} → Out (With A) → List ℕ
accounted_seen (out (with a w) t) =
    numbered a ∷ w.priority_remaining_ns ∷ w.protected_remaining_ns ∷ runtimes_seen (0 ∷ []) t

abbrev finished_seen : {A : Type 0} → Out (Answer A) → List ℕ
finished_seen (out a t) = numbered a ∷ runtimes_seen (0 ∷ []) t

abbrev due_seen : Out (With (Option ℕ)) → List ℕ
due_seen (out (with (value None) w) t) = none
due_seen (out (with (value (Some n)) w) t) = some n
due_seen (out (with (refused n) w) t) = n ∷ []

-- ---- The values that the cases speak of.
abbrev counters : ℕ → ℕ → Turns
counters back front = record { back = back; front = front }

abbrev fifo : SchedulingParameters
fifo = of_fifo (record { 0 = 10 }) (record { 0 = 128 }) role.Ordinary

abbrev fair : FairBackend → SchedulingParameters
fair b = record {
  policy = policy.Fair;
  band = record { 0 = 128 };
  role = role.Ordinary;
  weight = default_weight;
  quantum_ns = 5000000;
  fair_backend = b;
  budget = None;
}

-- A budget of 2,000,000 in 10,000,000 with a burst of 1,000,000.
abbrev share : SchedulingRole → SchedulingParameters
share r =
    of_budget (record { budget_ns = 2000000; period_ns = 10000000; burst_ns = 1000000 }) (record { 0 = 128 }) r

-- In this epoch with so much left of budget and burst.
abbrev left : ℕ → ℕ → ℕ → PolicyRuntime
left e remaining burst =
    runtime.Budget (record { epoch = Some e; remaining_ns = remaining; burst_remaining_ns = burst })

-- A table of one record with turn 5.
abbrev one : SchedulingParameters → PolicyRuntime → List ThreadRecord
one p r = thread p r 5 ∷ []

abbrev idle : SchedulingParameters
idle = record {
  policy = policy.Idle;
  band = record { 0 = 255 };
  role = role.Ordinary;
  weight = default_weight;
  quantum_ns = 0;
  fair_backend = backend.Stride;
  budget = None;
}

-- In epoch 1 with 1,500,000 left of the allowance.
abbrev begun : CpuWindow
begun =
    record {
      config = window.config;
      epoch = Some 1;
      priority_remaining_ns = 1500000;
      protected_remaining_ns = 3000000;
    }

-- A key of urgency 2 with this rank, algorithm and turn.
abbrev ranked : ℕ → ℕ → ℕ → DispatchKey
ranked rank n turn =
    record {
      urgency = 2;
      rank = rank;
      algorithm_rank = 1;
      algorithm = record { high = 0; low = n };
      band = 128;
      turn = turn;
    }

-- Whether a thread with the key of rank 2, algorithm 10, turn 5 gives way to this key, by expiry and yielding.
abbrev gives_way : SchedulingParameters → DispatchKey → Bool → Bool → ℕ
gives_way p a expired yielding =
    bit (should_switch_of (Some a) (Some ((ranked 2 10 5), mode.Ordinary)) p expired yielding false)

-- Somebody competes, with or without a budget peer, and nobody is ready.
abbrev contention : Bool → Contention
contention peer = record {
  competition = true;
  budget_peer = peer;
  ready = false;
  demand =
      record {
        protected = false;
        fair = false;
        window_sensitive = false;
        eligible_budget = true;
        any_budget = false;
      };
}

-- The deadline of a budget thread in this epoch with so much left, and 300 of its burst.
abbrev due_for : ℕ → Option DispatchMode → ℕ → ℕ → Bool → List ℕ
due_for now m e remaining peer =
    due_seen (refresh_deadline (one (share role.Ordinary) (left e remaining 300)) 0 now m window (contention peer))

-- ---- The rows.
abbrev turn_rows : List Row
turn_rows =
    -- Front placement takes a front turn only for FIFO. Others keep their turn unless it is 0.
    row (taken_seen (turn_for true fifo.policy 5 new_turns))
    (0 ∷ 9223372036854775807 ∷ 9223372036854775808 ∷ 9223372036854775807 ∷ [])
    ∷ row (taken_seen (turn_for true policy.Fair 5 new_turns)) (0 ∷ 5 ∷ 9223372036854775808 ∷ 9223372036854775808 ∷ [])
    ∷ row (taken_seen (turn_for true policy.Budget 0 new_turns))
    (0 ∷ 9223372036854775808 ∷ 9223372036854775809 ∷ 9223372036854775808 ∷ [])
    -- TurnsSpent: the front turn would be 0 or less, or the back turn is 2^64 - 1.
    ∷ row (taken_seen (turn_for true fifo.policy 5 (counters 7 2))) (0 ∷ 1 ∷ 7 ∷ 1 ∷ [])
    ∷ row (taken_seen (turn_for true fifo.policy 5 (counters 7 1))) (8 ∷ [])
    ∷ row (taken_seen (turn_for false policy.Fair 5 (counters 18446744073709551614 1)))
    (0 ∷ 18446744073709551614 ∷ 18446744073709551615 ∷ 1 ∷ [])
    ∷ row (taken_seen (turn_for false policy.Fair 5 (counters 18446744073709551615 1))) (8 ∷ [])
    -- Preparing refreshes a budget; where the turn is refused the refresh is not kept either.
    ∷ row (prepared_seen (prepare_enqueue (one (share role.Ordinary) (left 0 0 1)) 0 true 10000000 new_turns))
    (0 ∷ 9223372036854775808 ∷ 5 ∷ 2 ∷ some 1 ++ 2000000 ∷ 1 ∷ [])
    ∷ row (prepared_seen (prepare_enqueue (one (share role.Ordinary) (left 0 0 1)) 0 false 10000000
    (counters 18446744073709551615 1))) (8 ∷ 18446744073709551615 ∷ 5 ∷ 2 ∷ some 0 ++ 0 ∷ 1 ∷ [])
    ∷ []

abbrev account_rows : List Row
account_rows =
    -- A protected thread from 9,000,000 to 11,000,000: its budget is charged from the edge on, its burst whole, and a
    -- floor of 2,000,000 is left.
    row (accounted_seen (account_current (one (share role.Protected) (left 0 2000000 1000000)) 0 window mode.Ordinary
    9000000 11000000)) (0 ∷ 2000000 ∷ 2000000 ∷ 2 ∷ some 1 ++ 1000000 ∷ 0 ∷ [])
    -- BackInTime leaves record and window as they were.
    ∷ row (accounted_seen (account_current
    (one (share role.Protected) (left 0 2000000 1000000)) 0 window mode.Ordinary 2
    1)) (7 ∷ 2000000 ∷ 3000000 ∷ 2 ∷ some 0 ++ 2000000 ∷ 1000000 ∷ [])
    -- Idle is accepted; a Fair record's pass and slice stay, and the window is still charged.
    ∷ row (accounted_seen (account_current (one idle runtime.Idle) 0 window mode.Priority 11000000 11500000))
    (0 ∷ 1500000 ∷ 3000000 ∷ 3 ∷ [])
    ∷ row (accounted_seen (account_current
    (one (fair backend.Stride) (runtime.Fair (record { pass = record { high = 0; low = 7 }; remaining_ns = 8 }))) 0
    begun mode.Priority 11500000 11600000))
    (0 ∷ 1400000 ∷ 3000000 ∷ 1 ∷ 0 ∷ 7 ∷ 8 ∷ [])
    -- A turn that ends makes the burst whole.
    ∷ row (finished_seen (finish_turn (one (share role.Ordinary) (left 0 5 0)) 0)) (0 ∷ 2 ∷ some 0 ++ 5 ∷ 1000000 ∷ [])
    ∷ []

abbrev switch_rows : List Row
switch_rows =
    -- A fair thread with an expired slice under Stride yields only to a lesser whole key: not to a greater or the same;
    -- and to any where it yields.
    row (gives_way (fair backend.Stride) (ranked 2 11 5) true false
    ∷ gives_way (fair backend.Stride) (ranked 2 10 5) true false
    ∷ gives_way (fair backend.Stride) (ranked 2 9 5) true false
    ∷ gives_way (fair backend.Stride) (ranked 2 10 4) true false
    ∷ gives_way (fair backend.Stride) (ranked 2 9 5) false false
    ∷ gives_way (fair backend.Stride) (ranked 2 11 5) false true ∷ [])
    (0 ∷ 0 ∷ 1 ∷ 1 ∷ 0 ∷ 1 ∷ [])
    -- Round robin yields on equal urgency, rank and algorithm rank: not while its slice lasts, nor to a lower rank,
    -- unless it yields; and to a higher rank always.
    ∷ row (gives_way (fair backend.RoundRobin) (ranked 2 99 99) true false ∷ gives_way (fair backend.RoundRobin)
    (ranked 2 99 99) false false ∷ gives_way (fair backend.RoundRobin) (ranked 3 9 5) true false
    ∷ gives_way (fair backend.RoundRobin) (ranked 3 9 5) false true ∷ gives_way (fair backend.RoundRobin)
    (ranked 1 99 99) false false ∷ []) (1 ∷ 0 ∷ 0 ∷ 1 ∷ 1 ∷ [])
    -- A yielding FIFO thread gives way to an equal priority alone; a budget thread whose burst is spent to an equal
    -- band.
    ∷ row (gives_way fifo (ranked 2 10 5) false true ∷ gives_way fifo (ranked 2 11 5) false true
    ∷ gives_way fifo (ranked 2 9 5) false false ∷ gives_way (share role.Ordinary) (ranked 2 99 99) true false ∷ [])
    (1 ∷ 0 ∷ 1 ∷ 1 ∷ [])
    -- No ready thread, no switch; no key of its own, a switch.
    ∷ row (bit (should_switch_of None (Some ((ranked 2 10 5), mode.Ordinary))
    (fair backend.Stride) true true true)
    ∷ bit (should_switch_of (Some (ranked 3 1 1)) None (fair backend.Stride) false false false) ∷ [])
    (0 ∷ 1 ∷ [])
    ∷ []

abbrev deadline_rows : List Row
deadline_rows =
    -- Without a budget peer a budget thread runs until its time is spent or its period ends; with one, at most its
    -- burst.
    row (due_for 1000 (Some mode.Ordinary) 0 500 false ++ due_for 1000 (Some mode.Ordinary) 0 500 true
    ++ due_for 9999900 (Some mode.Ordinary) 0 500 false) (some 1500 ++ some 1300 ++ some 10000000)
    -- Near 2^64 the period's end does not fit: without a budget peer it saturates and the expiry stands; with one there
    -- is no deadline.
    ∷ row (due_for 18446744073709551605 (Some mode.Ordinary) 1844674407370 5 false ++ due_for 18446744073709551605
    (Some mode.Ordinary) 1844674407370 5 true) (some 18446744073709551610 ++ none)
    -- Without a key it is now, where anybody competes.
    ∷ row (due_for 77 None 0 0 false) (some 77)
    ∷ []

abbrev pub runtime_rows : List Row
runtime_rows = turn_rows ++ account_rows ++ switch_rows ++ deadline_rows
