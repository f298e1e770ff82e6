-- The heads of the twelve trees, refreshed, with what they ask for; and the least key among them. After the second and
-- third loop of `CpuRunQueue::peek_next`.
use Rattle.std.specs.Prelude.{ℕ, zero, suc, ◌-◌, Bool, true, false, List, get_or, set, replicate, Option, Some, None}
use Rattle.refusal.specs.Answer.{Answer, value, refused, damaged}
use Rattle.refusal.specs.Cases.{choose, given, if_less}
use Rattle.order.specs.Order.{on_ordering}
use Rattle.arbitration.specs.declared.Candidate.{Candidate}
use Rattle.arbitration.specs.declared.CpuWindow.{CpuWindow}
use Rattle.arbitration.specs.declared.Demand.{Demand}
use Rattle.dispatch_keys.specs.declared.DispatchKey.{DispatchKey}
use Rattle.arbitration.specs.declared.DispatchMode.{DispatchMode}
use Rattle.arbitration.specs.Window.{refreshed}
use Rattle.arbitration.specs.Key.{compare_keys, key_of}
use Rattle.thread.specs.declared.CpuIndex.{CpuIndex}
use Rattle.thread.specs.declared.ThreadRecord.{ThreadRecord}
use Rattle.thread.specs.Membership.{on_link, is_ready_on}
use Rattle.rows.specs.Table.{Out, out, record_at}
use Rattle.rows.specs.TableCases.{on_record}
use Rattle.lists.specs.Lists.{on_answer, on_out}
use Rattle.queue.specs.declared.Root.{Root}
use Rattle.demands.specs.declared.Gathered.{Gathered}
use Rattle.selection.specs.declared.ReadyThread.{ReadyThread}
use Rattle.demands.specs.Demands.{candidate_of, gathered}
use Rattle.renewal.specs.Renewal.{head_of, refresh_record, root_at}
use Rattle.queue.specs.RunQueue.{tree_count, last_tree}

-- A head: ready on this processor, else Damaged; then judged and refreshed (SPECIFICATION 9.3).
unfoldable pub head_at : List ThreadRecord → ℕ → CpuIndex → ℕ → Out (Answer Candidate)
head_at t id c now =
    on_record (record_at t id) (out (refused damaged) t)
    (λ r. choose (is_ready_on r.queue_links.membership c)
    (on_out (refresh_record t id r now)
    (λ a t₁. on_answer a (λ n. out (refused n) t₁) (λ s. given (candidate_of s) (λ head. out (value head) t₁))))
    (out (refused damaged) t))

-- The head of each tree, none where it is empty or not yet looked at; and what those found ask for, with the running
-- thread.
pub record Heads : Type 0 where
  pub heads : List (Option ℕ)
  pub found : Gathered

abbrev pub no_heads : List (Option ℕ)
no_heads = replicate tree_count None

-- The heads of the last so many trees. An empty tree is passed over (SPECIFICATION 9.3).
unfoldable pub gather_heads : ℕ → List ThreadRecord → List Root → CpuIndex → ℕ → List (Option ℕ) → Gathered
    → Out (Answer Heads)
gather_heads zero t roots c now heads g = out (value (record { heads = heads; found = g })) t
gather_heads (suc left) t roots c now heads g =
    given (last_tree - left)
    (λ k. on_answer (head_of t (root_at roots k))
    (λ n. out (refused n) t)
    (λ head. on_link head
    (gather_heads left t roots c now heads g)
    (λ id. on_out (head_at t id c now)
    (λ a t₁. on_answer a
    (λ n. out (refused n) t₁)
    (λ found. gather_heads left t₁ roots c now (set heads k (Some id)) (gathered g found))))))

-- None first.
unfoldable pub on_ready : {A : Type 0} → Option ReadyThread → A → (ReadyThread → A) → A
on_ready None a f = a
on_ready (Some r) a f = f r

-- None first.
unfoldable pub on_key_option : {A : Type 0} → Option (DispatchKey × DispatchMode) → A
    → (DispatchKey → DispatchMode → A) → A
on_key_option None a f = a
on_key_option (Some (k, m)) a f = f k m

-- `(key, id) < (old.key, old.id)`.
unfoldable pub comes_before : ReadyThread → ReadyThread → Bool
comes_before r old = on_ordering (compare_keys r.key old.key) true (if_less r.id.0 old.id.0 true false) false

-- The lesser of the two.
unfoldable pub lesser_ready : Option ReadyThread → ReadyThread → Option ReadyThread
lesser_ready best r = on_ready best (Some r) (λ old. choose (comes_before r old) (Some r) (Some old))

-- The least so far with one more head, under a window that is refreshed to now. The head was read before, so that it is
-- in the table.
unfoldable pub ready_with : List ThreadRecord → ℕ → CpuWindow → ℕ → Demand → Option ReadyThread → Option ReadyThread
ready_with t id w now d best =
    on_record (record_at t id) best
    (λ r. given (candidate_of r)
    (λ c. on_key_option (key_of w now c d) best
    (λ k mode. lesser_ready best (record { id = record { 0 = id }; policy = r.parameters.policy; key = k }))))

-- The least key, and the window, which is refreshed at each head that is looked at.
pub record Chosen : Type 0 where
  pub window : CpuWindow
  pub ready : Option ReadyThread

-- SPECIFICATION 9.4.
unfoldable pub least_of : ℕ → List ThreadRecord → List (Option ℕ) → ℕ → Demand → CpuWindow → Option ReadyThread → Chosen
least_of zero t heads now d w best = record { window = w; ready = best }
least_of (suc left) t heads now d w best =
    given (last_tree - left)
    (λ k. on_link (get_or heads k None)
    (least_of left t heads now d w best)
    (λ id. given (refreshed w now) (λ fresh. least_of left t heads now d fresh (ready_with t id fresh now d best))))
