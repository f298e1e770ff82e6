-- Parts of selection that have a function of their own; each is a part of a definition's text, or the definition goes
-- by it (HeadLaws, PeekLaws).
use Rattle.std.specs.Prelude.{ℕ, List, Option, None}
use Rattle.refusal.specs.Answer.{Answer, value, refused, damaged}
use Rattle.refusal.specs.Cases.{choose, given}
use Rattle.arbitration.specs.declared.CpuWindow.{CpuWindow}
use Rattle.thread.specs.declared.CpuIndex.{CpuIndex}
use Rattle.thread.specs.declared.ThreadRecord.{ThreadRecord}
use Rattle.thread.specs.Membership.{is_ready_on}
use Rattle.rows.specs.Table.{Out, out, record_at}
use Rattle.rows.specs.TableCases.{on_record}
use Rattle.lists.specs.Lists.{on_answer, on_out}
use Rattle.queue.specs.declared.Root.{Root}
use Rattle.demands.specs.declared.Gathered.{Gathered}
use Rattle.selection.specs.declared.Selection.{Selection}
use Rattle.demands.specs.Demands.{candidate_of, gathered, of_current}
use Rattle.selection.specs.Heads.{no_heads, gather_heads, least_of}
use Rattle.renewal.specs.Steps.{row_refreshed}
use Rattle.queue.specs.RunQueue.{tree_count}
use Rattle.arbitration.specs.declared.Candidate.{Candidate}

-- A head: ready on its processor, then judged and refreshed.
unfoldable pub head_refreshed : List ThreadRecord → ℕ → CpuIndex → ℕ → Out (Answer (Unit {0}))
head_refreshed t id c now =
    on_record (record_at t id) (out (refused damaged) t)
    (λ r. choose (is_ready_on r.queue_links.membership c) (row_refreshed t id r now) (out (refused damaged) t))

-- What was found before, with the head as it stands in the table.
unfoldable pub head_gathered : List ThreadRecord → ℕ → Gathered → Gathered
head_gathered t id g = on_record (record_at t id) g (λ r. gathered g (candidate_of r))

-- An answer, and the window as it is left.
pub data Looked : Type 0 where
  looked : Answer Selection → CpuWindow → Looked

-- The heads and the least key among them, on the roots alone.
unfoldable pub looked_at : List ThreadRecord → List Root → CpuIndex → ℕ → CpuWindow → Option Candidate → Out Looked
looked_at t roots c now w current =
    given (of_current current)
    (λ g. on_out (gather_heads tree_count t roots c now no_heads g)
    (λ a t₁. on_answer a
    (λ n. out (looked (refused n) w) t₁)
    (λ h. given (least_of tree_count t₁ h.heads now h.found.demand w None)
    (λ least. out (looked (value (record {
      ready = least.ready;
      demand = h.found.demand;
      fair_min_pass = h.found.fair_min_pass;
    })) least.window) t₁))))
