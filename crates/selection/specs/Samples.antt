-- A small table, a window and selections on it, by which the definitions are judged.
use Rattle.std.specs.Prelude.{ℕ, suc, ◌+◌, true, false, List, [], ◌∷◌, Option, Some, None}
use Rattle.refusal.specs.Answer.{Answer, value, refused}
use Rattle.policy.specs.declared.FairBackend.{FairBackend}
use Rattle.policy.specs.declared.FairBackend.TheVariants as backend
use Rattle.policy.specs.declared.SchedulingParameters.{SchedulingParameters}
use Rattle.policy.specs.declared.SchedulingPolicy.TheVariants as policy
use Rattle.policy.specs.declared.SchedulingRole.{SchedulingRole}
use Rattle.policy.specs.declared.SchedulingRole.TheVariants as role
use Rattle.policy.specs.Parameters.{default_weight, of_budget, of_fifo}
use Rattle.algorithms.specs.declared.PolicyRuntime.{PolicyRuntime}
use Rattle.algorithms.specs.declared.PolicyRuntime.TheVariants as runtime
use Rattle.arbitration.specs.declared.Candidate.{Candidate}
use Rattle.arbitration.specs.declared.CpuWindow.{CpuWindow}
use Rattle.thread.specs.declared.ThreadRecord.{ThreadRecord}
use Rattle.thread.specs.Membership.{empty_links, empty_queue_links}
use Rattle.rows.specs.Table.{Out, out}
use Rattle.queue.specs.RunQueue.{CpuRunQueue, tree_count}
use Rattle.queue.specs.Samples.{cpu, Left}
use Rattle.selection.specs.declared.Selection.{Selection}
use Rattle.selection.specs.Peek.{Peeked, peeked, peek_next}
use Rattle.algorithms.specs.declared.Wide.{Wide}
use Rattle.selection.specs.declared.ReadyThread.{ReadyThread}

-- Document 01's window: period 10,000,000, allowance 2,000,000, floor 3,000,000, ranks 0 to 3.
abbrev pub window : CpuWindow
window =
    record {
      config = record {
        period_ns = 10000000;
        priority_allowance_ns = 2000000;
        protected_floor_ns = 3000000;
        order = record { priority_rank = 0; budget_rank = 1; fair_rank = 2; borrow_rank = 3 };
        prefer_fair = false;
      };
      epoch = None;
      priority_remaining_ns = 2000000;
      protected_remaining_ns = 3000000;
    }

-- The same in epoch 0 with the allowance spent.
abbrev pub spent_window : CpuWindow
spent_window =
    record {
      config = window.config;
      epoch = Some 0;
      priority_remaining_ns = 0;
      protected_remaining_ns = 3000000;
    }

-- The same with a floor of 0.
abbrev pub bad_window : CpuWindow
bad_window =
    record {
      config =
          record {
            period_ns = 10000000;
            priority_allowance_ns = 2000000;
            protected_floor_ns = 0;
            order = window.config.order;
            prefer_fair = false;
          };
      epoch = None;
      priority_remaining_ns = 0;
      protected_remaining_ns = 0;
    }

-- A record in no list, on processor 0, with this turn.
abbrev pub thread : SchedulingParameters → PolicyRuntime → ℕ → ThreadRecord
thread p r turn =
    record {
      parameters = p;
      runtime = r;
      ready_turn = turn;
      ready_tree = empty_links;
      queue_links = empty_queue_links;
      cpu = cpu 0;
    }

-- 2,000,000 in 10,000,000, with this epoch and so much left.
abbrev pub budgeted : SchedulingRole → Option ℕ → ℕ → ℕ → ThreadRecord
budgeted r e left turn =
    thread (of_budget (record { budget_ns = 2000000; period_ns = 10000000; burst_ns = 2000000 })
    (record { 0 = 1 }) r)
    (runtime.Budget (record { epoch = e; remaining_ns = left; burst_remaining_ns = 2000000 })) turn

abbrev pub fair_parameters : FairBackend → SchedulingRole → SchedulingParameters
fair_parameters b r =
    record {
      policy = policy.Fair;
      band = record { 0 = 1 };
      role = r;
      weight = default_weight;
      quantum_ns = 1000000;
      fair_backend = b;
      budget = None;
    }

abbrev pub fair : FairBackend → SchedulingRole → ℕ → ℕ → ℕ → ThreadRecord
fair b r high low turn =
    thread (fair_parameters b r) (runtime.Fair
    (record { pass = record { high = high; low = low }; remaining_ns = 1000000 })) turn

-- Protected and empty in epoch 1; ordinary and empty in epoch 0; FIFO; three Fair threads of two backends.
abbrev pub six : List ThreadRecord
six =
    budgeted role.Protected (Some 1) 0 7 ∷ budgeted role.Ordinary (Some 0) 0 8
    ∷ thread (of_fifo (record { 0 = 5 }) (record { 0 = 1 }) role.Ordinary) runtime.Fifo 9
    ∷ fair backend.Stride role.Ordinary 1 5 10 ∷ fair backend.Stride role.Priority 1 4 11
    ∷ fair backend.RoundRobin role.Protected 3 3 tree_count ∷ []

-- A FIFO thread that runs.
abbrev pub running : Candidate
running = record {
  parameters = of_fifo (record { 0 = 5 }) (record { 0 = 1 }) role.Ordinary;
  fair_pass = record { high = 0; low = 0 };
  turn = 3;
  budget_available = true;
}

-- A Fair thread that runs, with this pass.
abbrev pub running_fair : FairBackend → ℕ → ℕ → Candidate
running_fair b high low =
    record {
      parameters = fair_parameters b role.Ordinary;
      fair_pass = record { high = high; low = low };
      turn = 3;
      budget_available = true;
    }

-- The queue as if its last selection had been in this epoch.
abbrev pub last_at : Option ℕ → CpuRunQueue → CpuRunQueue
last_at e q = record {
  realtime = q.realtime;
  realtime_len = q.realtime_len;
  fair = q.fair;
  indices = q.indices;
  budget_epoch = e;
  budget_threads = q.budget_threads;
  halted = q.halted;
}

-- A selection on processor 0 after calls that left queue and table.
abbrev pub selected : Left → ℕ → Option Candidate → Out (Peeked CpuRunQueue)
selected l now current = peek_next l.table l.queue (cpu 0) now window current

-- What it answers and leaves.
abbrev pub answer_of : Out (Peeked CpuRunQueue) → Answer Selection
answer_of (out (peeked a w q) t) = a

abbrev pub window_of : Out (Peeked CpuRunQueue) → CpuWindow
window_of (out (peeked a w q) t) = w

abbrev pub queue_of : Out (Peeked CpuRunQueue) → CpuRunQueue
queue_of (out (peeked a w q) t) = q

abbrev pub table_of : Out (Peeked CpuRunQueue) → List ThreadRecord
table_of (out (peeked a w q) t) = t

-- The thread's number and one, or 0 for none; a refusal's number and a hundred.
abbrev pub named_by : Option ReadyThread → ℕ
named_by None = 0
named_by (Some r) = suc r.id.0

abbrev pub named : Answer Selection → ℕ
named (value s) = named_by s.ready
named (refused n) = 100 + n

abbrev pub lowest : Answer Selection → Option Wide
lowest (value s) = s.fair_min_pass
lowest (refused n) = None
