-- Selection: on the parts of a queue that it touches, and on a queue. After `CpuRunQueue::peek_next`, with document
-- 01's refusals in its order.
use Rattle.std.specs.Prelude.{ℕ, ◌/◌, List, length, Option, None}
use Rattle.refusal.specs.Answer.{Answer, value, refused, bad_config, queue_halted, bad_table}
use Rattle.refusal.specs.Cases.{choose, given, if_less}
use Rattle.arbitration.specs.declared.CpuWindow.{CpuWindow}
use Rattle.window_config.specs.Config.{sound_config}
use Rattle.thread.specs.declared.CpuIndex.{CpuIndex}
use Rattle.thread.specs.declared.ThreadRecord.{ThreadRecord}
use Rattle.rows.specs.Table.{Out, out}
use Rattle.lists.specs.Lists.{on_answer, on_out}
use Rattle.queue.specs.RunQueue.{CpuRunQueue, tree_count}
use Rattle.queue.specs.Queue.{max_records}
use Rattle.selection.specs.declared.Selection.{Selection}
use Rattle.renewal.specs.Parts.{SelectionParts}
use Rattle.renewal.specs.Leaves.{on_leaves}
use Rattle.demands.specs.Demands.{of_current}
use Rattle.renewal.specs.Renewal.{renew}
use Rattle.selection.specs.Heads.{Heads, no_heads, gather_heads, least_of}
use Rattle.arbitration.specs.declared.Candidate.{Candidate}

-- An answer, the window, and the parts or the queue, as they are left; the table stands beside it (`Out`).
pub data Peeked (B : Type 0) : Type 0 where
  peeked : Answer Selection → CpuWindow → B → Peeked B

-- With the heads gathered: the least key. Where there is no head the window is not refreshed (SPECIFICATION 9.4).
unfoldable pub chosen : List ThreadRecord → SelectionParts → ℕ → CpuWindow → Heads → Out (Peeked SelectionParts)
chosen t p now w h =
    given (least_of tree_count t h.heads now h.found.demand w None)
    (λ least. out (peeked (value (record {
      ready = least.ready;
      demand = h.found.demand;
      fair_min_pass = h.found.fair_min_pass;
    })) least.window p) t)

-- With a window that is sound and a queue that runs: the change of period, then the heads, then the least key.
-- (SPECIFICATION 9.5).
unfoldable pub peek_running : List ThreadRecord → SelectionParts → CpuIndex → ℕ → CpuWindow → Option Candidate
    → Out (Peeked SelectionParts)
peek_running t p c now w current =
    given (now / w.config.period_ns)
    (λ e. on_out (renew t p now e)
    (λ s t₁. on_leaves s
    (λ n p₁. out (peeked (refused n) w p₁) t₁)
    (λ u p₁. on_out (gather_heads tree_count t₁ p₁.indices c now no_heads (of_current current))
    (λ a t₂. on_answer a
    (λ n. out (peeked (refused n) w p₁) t₂)
    (λ h. chosen t₂ p₁ now w h)))))

-- BadTable, BadConfig and Halted, in that order, with nothing changed.
unfoldable pub peek_parts : List ThreadRecord → SelectionParts → CpuIndex → ℕ → CpuWindow → Option Candidate
    → Out (Peeked SelectionParts)
peek_parts t p c now w current =
    if_less max_records (length t) (out (peeked (refused bad_table) w p) t)
    (choose (sound_config w.config)
    (choose p.halted (out (peeked (refused queue_halted) w p) t) (peek_running t p c now w current))
    (out (peeked (refused bad_config) w p) t))

unfoldable pub selection_parts : CpuRunQueue → SelectionParts
selection_parts q = record { indices = q.indices; budget_epoch = q.budget_epoch; halted = q.halted }

unfoldable pub with_selection_parts : CpuRunQueue → SelectionParts → CpuRunQueue
with_selection_parts q p =
    record {
      realtime = q.realtime;
      realtime_len = q.realtime_len;
      fair = q.fair;
      indices = p.indices;
      budget_epoch = p.budget_epoch;
      budget_threads = q.budget_threads;
      halted = p.halted;
    }

unfoldable pub restored : CpuRunQueue → Peeked SelectionParts → Peeked CpuRunQueue
restored q (peeked a w p) = peeked a w (with_selection_parts q p)

-- `peek_next`: the queued thread with the least dispatch key, or none; the demand; the lowest fair pass; window and
-- queue as they are left (SPECIFICATION 9.1).
unfoldable pub peek_next : List ThreadRecord → CpuRunQueue → CpuIndex → ℕ → CpuWindow → Option Candidate
    → Out (Peeked CpuRunQueue)
peek_next t q c now w current =
    on_out (peek_parts t (selection_parts q) c now w current) (λ x t₁. out (restored q x) t₁)
