-- Selection over a queue as the code takes it: the change of period on the queue, and then the heads. The laws say that
-- this is `peek_next`.
use Rattle.std.specs.Prelude.{ℕ, ◌/◌, true, List, length, Option, Some}
use Rattle.refusal.specs.Answer.{value, refused, bad_config, queue_halted, bad_table}
use Rattle.refusal.specs.Cases.{choose, given, if_less}
use Rattle.arbitration.specs.declared.CpuWindow.{CpuWindow}
use Rattle.window_config.specs.Config.{sound_config}
use Rattle.thread.specs.declared.CpuIndex.{CpuIndex}
use Rattle.thread.specs.declared.ThreadRecord.{ThreadRecord}
use Rattle.rows.specs.Table.{Out, out}
use Rattle.lists.specs.Lists.{on_out}
use Rattle.queue.specs.declared.Root.{Root}
use Rattle.queue.specs.RunQueue.{CpuRunQueue}
use Rattle.queue.specs.Queue.{max_records}
use Rattle.renewal.specs.Leaves.{Leaves, leaves, on_leaves}
use Rattle.renewal.specs.Renewal.{renew_roles, is_halt, renew}
use Rattle.selection.specs.Peek.{Peeked, peeked, selection_parts, with_selection_parts}
use Rattle.selection.specs.Steps.{Looked, looked, looked_at}
use Rattle.arbitration.specs.declared.Candidate.{Candidate}

-- The twelve roots stored.
unfoldable pub with_indices : CpuRunQueue → List Root → CpuRunQueue
with_indices q roots =
    record {
      realtime = q.realtime;
      realtime_len = q.realtime_len;
      fair = q.fair;
      indices = roots;
      budget_epoch = q.budget_epoch;
      budget_threads = q.budget_threads;
      halted = q.halted;
    }

-- The epoch stored.
unfoldable pub with_epoch : CpuRunQueue → ℕ → CpuRunQueue
with_epoch q e =
    record {
      realtime = q.realtime;
      realtime_len = q.realtime_len;
      fair = q.fair;
      indices = q.indices;
      budget_epoch = Some e;
      budget_threads = q.budget_threads;
      halted = q.halted;
    }

-- The mark that a refusal leaves.
unfoldable pub with_mark : CpuRunQueue → ℕ → CpuRunQueue
with_mark q n =
    record {
      realtime = q.realtime;
      realtime_len = q.realtime_len;
      fair = q.fair;
      indices = q.indices;
      budget_epoch = q.budget_epoch;
      budget_threads = q.budget_threads;
      halted = choose (is_halt n) true q.halted;
    }

-- The moves of the three roles, on a queue.
unfoldable pub renewed_roots : List ThreadRecord → CpuRunQueue → ℕ → Out (Leaves (Unit {0}) CpuRunQueue)
renewed_roots t q now =
    on_out (renew_roles 3 (length t) t q.indices now)
    (λ s t₁. on_leaves s
    (λ n roots. out (leaves (refused n) (with_indices q roots)) t₁)
    (λ u roots. out (leaves (value tt) (with_indices q roots)) t₁))

-- The change of period, on a queue.
unfoldable pub renewed_queue : List ThreadRecord → CpuRunQueue → ℕ → ℕ → Out (Leaves (Unit {0}) CpuRunQueue)
renewed_queue t q now e =
    on_out (renew t (selection_parts q) now e)
    (λ s t₁. on_leaves s
    (λ n p. out (leaves (refused n) (with_selection_parts q p)) t₁)
    (λ u p. out (leaves (value tt) (with_selection_parts q p)) t₁))

abbrev pub beside_queue : CpuRunQueue → Looked → Peeked CpuRunQueue
beside_queue q (looked a w) = peeked a w q

-- With a window that is sound and a queue that runs.
unfoldable pub running_queue : List ThreadRecord → CpuRunQueue → CpuIndex → ℕ → CpuWindow → Option Candidate
    → Out (Peeked CpuRunQueue)
running_queue t q c now w current =
    given (now / w.config.period_ns)
    (λ e. on_out (renewed_queue t q now e)
    (λ s t₁. on_leaves s
    (λ n q₁. out (peeked (refused n) w q₁) t₁)
    (λ u q₁. on_out (looked_at t₁ q₁.indices c now w current) (λ x t₂. out (beside_queue q₁ x) t₂))))

unfoldable pub peek_queue : List ThreadRecord → CpuRunQueue → CpuIndex → ℕ → CpuWindow → Option Candidate
    → Out (Peeked CpuRunQueue)
peek_queue t q c now w current =
    if_less max_records (length t) (out (peeked (refused bad_table) w q) t)
    (choose (sound_config w.config)
    (choose q.halted (out (peeked (refused queue_halted) w q) t) (running_queue t q c now w current))
    (out (peeked (refused bad_config) w q) t))
