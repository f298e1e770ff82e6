-- Changes of trees and runtimes while lists, parameters and processors stay: what a selection does to a sound queue.
use Rattle.std.specs.Prelude.{◌≡◌, Bool, true, false, ◌≢◌, List, ℕ, zero, suc, ◌+◌, ◌≤◌, length, get_or, ltb, Some}
use Rattle.std.proofs.Math.Path.{refl}
use Rattle.std.proofs.Common.{sym, ap, ◌∙◌, arith, lt-ltb, le-ltb}
use Rattle.refusal.specs.Cases.{choose, if_less, given}
use Rattle.policy.specs.declared.SchedulingPolicy.{SchedulingPolicy}
use Rattle.policy.specs.declared.SchedulingPolicy.TheVariants as policy
use Rattle.policy.specs.PolicyCases.{on_policy}
use Rattle.algorithms.specs.declared.PolicyRuntime.{PolicyRuntime}
use Rattle.thread.specs.declared.ThreadQueue.{ThreadQueue}
use Rattle.thread.specs.declared.ThreadRecord.{ThreadRecord}
use Rattle.thread.specs.Membership.{empty_queue}
use Rattle.thread.specs.Records.{with_runtime}
use Rattle.thread.specs.Judgement.{is_bad_record}
use Rattle.thread.specs.Filing.{budget_available_of, role_index, index_for, budget_exhausted, budget_ready}
use Rattle.thread.specs.FilingLaws.{role_index_le}
use Rattle.rows.specs.Table.{record_of, changed, queue_links_at}
use Rattle.rows.specs.TableLaws.{length_changed, record_same, record_other, after_set_runtime, links_set_runtime}
use Rattle.rows.specs.TableLaws.{key_set_runtime, queue_links_set_runtime, budget_key_kept}
use Rattle.queue.specs.RunQueue.{CpuRunQueue, tree_count}
use Rattle.queue.specs.Queue.{is_fifo, is_budget, partner}
use Rattle.sound_queue.specs.PlaceLaws.{same_or_not}
use Rattle.sound_queue.specs.Forest.{Forest}
use Rattle.sound_queue.specs.ForestLaws.{forest_still}
use Rattle.sound_queue.specs.Count.{count}
use Rattle.sound_queue.specs.CountLaws.{count_same}
use Rattle.sound_queue.specs.Lists.{list_at, row_of, Lists}
use Rattle.sound_queue.specs.ListsLaws.{lists_still, lists_same}
use Rattle.sound_queue.specs.Sound.{Filed, by_filing, in_partner, Queued, queued_of, Sound}
use Rattle.sound_queue.specs.SoundLaws.{queued_inside}

pub list_at_by : (r q : CpuRunQueue) (n : ℕ) → r.realtime ≡ q.realtime → r.fair ≡ q.fair → list_at r n ≡ list_at q n
unfolding list_at
list_at_by r q zero a b = b
list_at_by r q (suc p) a b = ap (λ (l : List ThreadQueue). get_or l p empty_queue) a

-- Trees and runtimes may change, roots and the queue's epoch too: the queue is sound if the twelve trees stand and each
-- queued record is filed in its tree.
module _ {queued : ℕ → Bool} {q : CpuRunQueue} {t : List ThreadRecord} (S : Sound queued q t)
    (s : List ThreadRecord) (l : length s ≡ length t)
    (same : (j : ℕ) → (record_of s j).parameters ≡ (record_of t j).parameters)
    (links : (j : ℕ) → queue_links_at s j ≡ queue_links_at t j) where
  pub row_kept : (j : ℕ) → row_of queued t j ≡ row_of queued s j
  unfolding row_of
  row_kept j = rw (same j)

  pub count_kept : (p : SchedulingPolicy → Bool)
      → count (length t) (queued_of p queued t) ≡ count (length s) (queued_of p queued s)
  unfolding queued_of
  count_kept p = rw l (count_same (length t) (queued_of p queued s) (queued_of p queued t) (λ j m. rw (same j)))

  unfoldable pub trees_sound : (r : CpuRunQueue) (place : ℕ → ℕ) → r.realtime ≡ q.realtime → r.fair ≡ q.fair
      → r.realtime_len ≡ q.realtime_len → r.budget_threads ≡ q.budget_threads
      → r.halted ≡ q.halted → Forest r.indices s place → ((j : ℕ) → ltb (place j) tree_count ≡ queued j)
      → ((j : ℕ) → queued j ≡ true → Queued S.cpus (record_of s j) (place j))
      → Sound queued r s
  trees_sound r place a b c d e F stands threads = record {
    cpus = S.cpus;
    place = place;
    forest = F;
    stands = stands;
    threads = threads;
    priorities = ap length a ∙ S.priorities;
    lists = lists_by (lists_same (row_of queued s) row_kept (lists_still s (λ j m. links j) S.lists));
    total = c ∙ S.total ∙ count_kept is_fifo;
    budgets = d ∙ S.budgets ∙ count_kept is_budget;
    running = e ∙ S.running;
  }
    where
      same_lists : (n : ℕ) → list_at r n ≡ list_at q n
      same_lists n = list_at_by r q n a b

      lists_by : Lists (list_at q) S.cpus s (row_of queued s) → Lists (list_at r) S.cpus s (row_of queued s)
      lists_by L = record { members = L.members; holds = λ n m. rw (same_lists n) (L.holds n m); exact = L.exact }

-- The two trees of a budget thread's role.
pub data BudgetTree (role k : ℕ) : Type 0 where
  with_time : k ≡ budget_ready + role → BudgetTree role k
  exhausted : k ≡ budget_exhausted + role → BudgetTree role k

budget_filed : (r : ThreadRecord) → r.parameters.policy ≡ policy.Budget
    → index_for r.parameters r.runtime
    ≡ choose (budget_available_of r.runtime) (Some (budget_ready + role_index r.parameters.role))
    (Some (budget_exhausted + role_index r.parameters.role))
unfolding index_for given on_policy
budget_filed r e = rw e

partner_of_ready : (n : ℕ) → n ≤ 2 → partner (budget_ready + n) ≡ budget_exhausted + n
unfolding partner if_less choose
partner_of_ready n h = rw (lt-ltb (budget_ready + n) budget_exhausted (omega arith)) (omega arith)

partner_of_exhausted : (n : ℕ) → partner (budget_exhausted + n) ≡ budget_ready + n
unfolding partner if_less choose
partner_of_exhausted n = rw (le-ltb (budget_exhausted + n) budget_exhausted (omega arith)) (omega arith)

tree_by : (n k f : ℕ) → n ≤ 2 → (x : Bool) → choose x (Some (budget_ready + n))
    (Some (budget_exhausted + n)) ≡ Some f
    → (f ≡ k → BudgetTree n k) × (partner f ≡ k → BudgetTree n k)
unfolding choose
tree_by n k f h true z =
    let y : budget_ready + n ≡ f = cc in
    ((λ w. with_time (omega arith)), (λ w. exhausted (sym w ∙ ap partner (sym y) ∙ partner_of_ready n h)))
tree_by n k f h false z =
    let y : budget_exhausted + n ≡ f = cc in
    ((λ w. exhausted (omega arith)), (λ w. with_time (sym w ∙ ap partner (sym y) ∙ partner_of_exhausted n)))

-- A budget thread stands in one of the two trees of its role,
pub filed_in : (r : ThreadRecord) (k : ℕ) → r.parameters.policy ≡ policy.Budget → Filed r k
    → BudgetTree (role_index r.parameters.role) k
filed_in r k e (by_filing x) =
    (tree_by (role_index r.parameters.role) k k (role_index_le r.parameters.role) (budget_available_of r.runtime)
    (sym (budget_filed r e) ∙ x)).0 refl
filed_in r k e (in_partner f b x y) =
    (tree_by (role_index r.parameters.role) k f (role_index_le r.parameters.role) (budget_available_of r.runtime)
    (sym (budget_filed r e) ∙ x)).1 y

file_by : (r : ThreadRecord) (k n : ℕ) → n ≤ 2 → is_budget r.parameters.policy ≡ true → (x : Bool)
    → index_for r.parameters r.runtime ≡ choose x (Some (budget_ready + n))
    (Some (budget_exhausted + n)) → BudgetTree n k
    → Filed r k
unfolding choose
file_by r k n h b true z (with_time w) = by_filing (z ∙ ap (λ m. Some m) (sym w))
file_by r k n h b true z (exhausted w) = in_partner (budget_ready + n) b z (partner_of_ready n h ∙ sym w)
file_by r k n h b false z (with_time w) = in_partner (budget_exhausted + n) b z (partner_of_exhausted n ∙ sym w)
file_by r k n h b false z (exhausted w) = by_filing (z ∙ ap (λ m. Some m) (sym w))

-- and may stand in either.
pub file_in : (r : ThreadRecord) (k : ℕ) → r.parameters.policy ≡ policy.Budget
    → BudgetTree (role_index r.parameters.role) k → Filed r k
unfolding is_budget on_policy
file_in r k e b =
    file_by r k (role_index r.parameters.role) (role_index_le r.parameters.role) (rw e)
    (budget_available_of r.runtime) (budget_filed r e) b

-- A queued budget thread may get another runtime, as a refresh gives it: it stands where it stood, by its filing or in
-- the partner.
module _ {queued : ℕ → Bool} {q : CpuRunQueue} {t : List ThreadRecord} (S : Sound queued q t)
    (i : ℕ) (x : PolicyRuntime)
    (e : queued i ≡ true) (b : (record_of t i).parameters.policy ≡ policy.Budget)
    (g : is_bad_record (with_runtime x (record_of t i)) ≡ false) where
  abbrev refreshed : List ThreadRecord
  refreshed = changed t i (with_runtime x)

  other_record : (j : ℕ) → j ≢ i → record_of refreshed j ≡ record_of t j
  other_record j d = record_other t i (with_runtime x) j d

  pub same_parameters : (j : ℕ) → (record_of refreshed j).parameters ≡ (record_of t j).parameters
  same_parameters j = same_or_not j i
      (λ z. rw (z, record_same t i (with_runtime x) (queued_inside S i e)))
      (λ z. ap (λ (r : ThreadRecord). r.parameters) (other_record j z))

  pub refreshed_queued : (j : ℕ) → queued j ≡ true → Queued S.cpus (record_of refreshed j) (S.place j)
  refreshed_queued j h = same_or_not j i
      (λ z. rw (z, record_same t i (with_runtime x) (queued_inside S i e)) (record {
        judged = g;
        assigned = (S.threads i e).assigned;
        listed = (S.threads i e).listed;
        filed =
            file_in (with_runtime x (record_of t i)) (S.place i) b
            (filed_in (record_of t i) (S.place i) b (S.threads i e).filed);
      }))
      (λ z. rw (other_record j z) (S.threads j h))

  unfoldable pub refresh_sound : Sound queued q (changed t i (with_runtime x))
  unfolding trees_sound
  refresh_sound =
      trees_sound S refreshed (length_changed t i (with_runtime x)) same_parameters
      (λ j. rw (after_set_runtime t i x) at (queue_links_set_runtime t i x j))
      q S.place refl refl refl refl refl
      (forest_still refreshed (omega (arith, S.forest.small, length_changed t i (with_runtime x)))
      (λ j m. (
        rw (after_set_runtime t i x) at (links_set_runtime t i x j),
        rw (after_set_runtime t i x) at
            (key_set_runtime t i x j (budget_key_kept (record_of t i).parameters x (record_of t i).runtime
            (record_of t i).ready_turn b)),
      )) S.forest)
      S.stands refreshed_queued

  -- It stands in the same tree.
  pub refresh_place : (j : ℕ) → refresh_sound.place j ≡ S.place j
  unfolding refresh_sound trees_sound
  refresh_place j = refl
