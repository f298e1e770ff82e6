-- A small table and lists of calls on it, on which the definitions are judged.
use Rattle.std.specs.Prelude.{ℕ, Bool, List, [], ◌∷◌, Some, None}
use Rattle.refusal.specs.Answer.{Answer, value, refused}
use Rattle.policy.specs.declared.SchedulingParameters.{SchedulingParameters}
use Rattle.policy.specs.declared.SchedulingPolicy.TheVariants as policy
use Rattle.policy.specs.declared.SchedulingRole.TheVariants as role
use Rattle.policy.specs.declared.FairBackend.TheVariants as backend
use Rattle.policy.specs.Parameters.{default_weight, of_budget, of_fifo, of_idle}
use Rattle.algorithms.specs.declared.PolicyRuntime.{PolicyRuntime}
use Rattle.algorithms.specs.declared.PolicyRuntime.TheVariants as runtime
use Rattle.thread.specs.declared.CpuIndex.{CpuIndex}
use Rattle.thread.specs.declared.QueueMembership.TheVariants as membership
use Rattle.thread.specs.declared.ThreadRecord.{ThreadRecord}
use Rattle.thread.specs.Membership.{empty_links, empty_queue_links}
use Rattle.rows.specs.Table.{Out, out}
use Rattle.queue.specs.RunQueue.{CpuRunQueue}
use Rattle.queue.specs.Queue.{Step, step, enqueue_call, remove_call}

abbrev pub cpu : ℕ → CpuIndex
cpu n = record { 0 = n }

-- A record in no list, on processor c.
abbrev pub thread : SchedulingParameters → PolicyRuntime → ℕ → ThreadRecord
thread p r c =
    record {
      parameters = p;
      runtime = r;
      ready_turn = 7;
      ready_tree = empty_links;
      queue_links = empty_queue_links;
      cpu = cpu c;
    }

abbrev pub fifo : ℕ → ℕ → ThreadRecord
fifo priority c = thread (of_fifo (record { 0 = priority }) (record { 0 = 1 }) role.Ordinary) runtime.Fifo c

abbrev pub fair_parameters : SchedulingParameters
fair_parameters =
    record {
      policy = policy.Fair;
      band = record { 0 = 1 };
      role = role.Priority;
      weight = default_weight;
      quantum_ns = 1;
      fair_backend = backend.Stride;
      budget = None;
    }

-- A budget of 2 in 10 with this much left.
abbrev pub budget_thread : ℕ → ThreadRecord
budget_thread left =
    thread (of_budget (record { budget_ns = 2; period_ns = 10; burst_ns = 2 }) (record { 0 = 1 }) role.Protected)
    (runtime.Budget (record { epoch = None; remaining_ns = left; burst_remaining_ns = 2 })) 0

abbrev pub terminated : ThreadRecord
terminated =
    record {
      parameters = of_fifo (record { 0 = 5 }) (record { 0 = 1 }) role.Ordinary;
      runtime = runtime.Fifo;
      ready_turn = 7;
      ready_tree = empty_links;
      queue_links = record { previous = Some 70; next = Some 71; membership = membership.Terminated };
      cpu = cpu 0;
    }

-- FIFO, Fair, Budget with time left, Budget exhausted, Idle, FIFO of another processor, a Fair record with a FIFO
-- runtime, one in another list, FIFO.
abbrev pub nine : List ThreadRecord
nine =
    fifo 5 0 ∷ thread fair_parameters (runtime.Fair (record { pass = record { high = 0; low = 9 }; remaining_ns = 1 }))
    0 ∷ budget_thread 2 ∷ budget_thread 0
    ∷ thread of_idle runtime.Idle 0 ∷ fifo 5 1 ∷ thread fair_parameters runtime.Fifo 0 ∷ terminated ∷ fifo 5 0 ∷ []

pub data Call : Type 0 where
  enqueue_at : Bool → ℕ → Call
  remove_at : ℕ → Call

-- A call on processor 0.
unfoldable pub made : Call → CpuRunQueue → List ThreadRecord → Out (Step (Unit {0}))
made (enqueue_at front i) q t = enqueue_call front t q i (cpu 0)
made (remove_at i) q t = remove_call t q i (cpu 0)

-- What calls answered, 0 for accepted, and what they left.
pub record Left : Type 0 where
  pub answers : List ℕ
  pub queue : CpuRunQueue
  pub table : List ThreadRecord

-- The refusal's number, 0 where it is accepted.
abbrev pub number : Answer (Unit {0}) → ℕ
number (value u) = 0
number (refused n) = n

unfoldable pub and_after : ℕ → Left → Left
and_after n l = record { answers = n ∷ l.answers; queue = l.queue; table = l.table }

unfoldable pub then : Out (Step (Unit {0})) → (CpuRunQueue → List ThreadRecord → Left) → Left
then (out (step a q) t) f = and_after (number a) (f q t)

-- One call after the other.
unfoldable pub left_by : List Call → CpuRunQueue → List ThreadRecord → Left
left_by [] q t = record { answers = []; queue = q; table = t }
left_by (c ∷ l) q t = then (made c q t) (left_by l)
